use Rattle.std.proofs.Common.{[], map}
use Rattle.csv.specs.Records.{fields_of}
use Rattle.ruled_io.proofs.Shows.{end-begun, end-lines, lines-begun}
use Rattle.ruled_io.proofs.Fronts.{on-err}
use Rattle.ruled_io.proofs.at_once.write_lines.Goals as goal

pub returns-in_err-write_rows-clause-begun : goal.returns-in_err-write_rows-clause-begun
returns-in_err-write_rows-clause-begun g c = λ options plan has.
    on-err c.from_residual.result
    (lines-begun options plan (map fields_of c.args.rows.now) c.args.table (g.W.Write.contents c.args.out.now.writer) (g.W.Write.contents c.write_rows.new.out.writer) has (c.in_err-write_rows.ensures.failed options plan [] has).0)

pub returns-clause-lines : goal.returns-clause-lines
returns-clause-lines g c = λ options plan has.
    end-lines options plan (map fields_of c.args.rows.now) (g.W.Write.contents c.args.out.now.writer) (g.W.Write.contents c.write_rows.new.out.writer) (g.W.Write.contents c.write_end.new.out.writer) c.write_end.result
    (c.in_ok-write_rows.ensures.written options plan [] has) (c.write_end.ensures.ends options plan (map fields_of c.args.rows.now) (c.in_ok-write_rows.ensures.after options plan [] has))

pub returns-clause-begun : goal.returns-clause-begun
returns-clause-begun g c = λ options plan has.
    end-begun options plan (map fields_of c.args.rows.now) (g.W.Write.contents c.args.out.now.writer) (g.W.Write.contents c.write_rows.new.out.writer) (g.W.Write.contents c.write_end.new.out.writer) c.write_end.result
    (c.in_ok-write_rows.ensures.written options plan [] has) (c.write_end.ensures.ends options plan (map fields_of c.args.rows.now) (c.in_ok-write_rows.ensures.after options plan [] has))

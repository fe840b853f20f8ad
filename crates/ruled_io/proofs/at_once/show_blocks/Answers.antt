use Rattle.std.proofs.Common.{◌≡◌, ◌∙◌, List, drop, map, ap, subst}
use Rattle.std.specs.List.{flat_map}
use Rattle.csv.specs.Records.{fields_of}
use Rattle.pg_layout.specs.Text.{Text}
use Rattle.ruled_table.specs.View.{blocks_fault, blocks_text, record_block, records_fault}
use Rattle.ruled_io.specs.Stream.{DrawsInMemory}
use Rattle.ruled_io.proofs.Shows.{draws-so, drop-one, view-draws}
use Rattle.ruled_io.proofs.at_once.show_blocks.Goals as goal

pub returns-in_err-blocks-clause-draws : goal.returns-in_err-blocks-clause-draws
returns-in_err-blocks-clause-draws g c = λ named.
    let options = c.args.options.now in
    let rows : List (List Text) = map fields_of c.args.rows.now in
    view-draws (blocks_text options rows) (blocks_fault options rows) (g.W.Write.contents c.args.out.now.writer) c.in_err-blocks.field-0.0 c.from_residual.result
    (λ kept. let told = c.in_err-blocks.ensures.fault kept in cc) c.from_residual.ensures.1

pub returns-clause-draws : goal.returns-clause-draws
returns-clause-draws g c = λ named.
    let options = c.args.options.now in
    let rows : List (List Text) = map fields_of c.args.rows.now in
    let below : map fields_of c.below_names.result.now ≡ drop 1 rows = ap (map fields_of) c.below_names.ensures ∙ drop-one fields_of c.args.rows.now in
    draws-so (blocks_text options rows) (blocks_fault options rows) (g.W.Write.contents c.args.out.now.writer) (g.W.Write.contents c.write_blocks.new.out.writer) c.write_blocks.result
    (subst (λ (xs : List (List Text)). DrawsInMemory (flat_map (record_block options rows) xs) (records_fault options rows xs) (g.W.Write.contents c.args.out.now.writer) (g.W.Write.contents c.write_blocks.new.out.writer) c.write_blocks.result) below
    (c.write_blocks.ensures.draws options rows c.in_ok-blocks.ensures.names))

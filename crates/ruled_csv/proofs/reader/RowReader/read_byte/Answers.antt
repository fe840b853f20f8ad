use Rattle.std.proofs.Common.{◌≡◌, ◌∙◌, false, map, refl, sym}
use Rattle.std.proofs.lemmas.Result.{on_ok_weaker}
use Rattle.csv.specs.Records.{fields_of}
use Rattle.ruled_csv.specs.Inside.{leaves_out, left_of, scan_after, scan_of}
use Rattle.ruled_csv.specs.Kept.{kept_text}
use Rattle.ruled_csv.proofs.Readers.{end-rows, fault-scanned, foretold, holds-still, on-foretold, out-rows, read-end, read-out, read-scanned, rows-scanned, sound-scanned}
use Rattle.ruled_csv.proofs.reader.RowReader.read_byte.Goals as goal

pub returns-then-leaves_out-clause-read : goal.returns-then-leaves_out-clause-read
returns-then-leaves_out-clause-read c = λ dialect before read.
    read-out dialect before c.args.byte c.args.self.now _ read (sym (c.leaves_out.ensures dialect before read) ∙ c.if-leaves_out.true) refl refl refl refl

pub returns-then-leaves_out-clause-rows : goal.returns-then-leaves_out-clause-rows
returns-then-leaves_out-clause-rows c = λ dialect before read.
    out-rows dialect before c.args.byte (map fields_of c.args.rows.now.items) (sym (c.leaves_out.ensures dialect before read) ∙ c.if-leaves_out.true)

pub returns-then-self-clause-read : goal.returns-then-self-clause-read
returns-then-self-clause-read c = λ dialect before read.
    read-end dialect before c.args.byte c.args.self.now read (sym (c.leaves_out.ensures dialect before read) ∙ c.if-leaves_out.false) c.if-self.true _ refl c.end_line.ensures.dialect c.end_line.ensures.hand refl refl

pub returns-then-self-clause-rows : goal.returns-then-self-clause-rows
returns-then-self-clause-rows c = λ dialect before read.
    end-rows dialect before c.args.byte c.args.self.now read (sym (c.leaves_out.ensures dialect before read) ∙ c.if-leaves_out.false) c.if-self.true (map fields_of c.args.rows.now.items)

pub returns-clause-read : goal.returns-clause-read
returns-clause-read c = λ dialect before read.
    let none : leaves_out dialect (left_of dialect before) c.args.byte ≡ false = sym (c.leaves_out.ensures dialect before read) ∙ c.if-leaves_out.false in
    let holds = holds-still dialect before c.args.byte c.args.self.now read none c.if-self.false _ refl refl refl in
    on_ok_weaker c.scan.result (read-scanned dialect before c.args.byte c.args.self.now read none c.if-self.false c.scan.new.self (c.scan.ensures.left ∙ c.if-self.false)) (c.scan.ensures.read dialect (scan_of dialect (kept_text dialect before)) holds)

pub returns-clause-rows : goal.returns-clause-rows
returns-clause-rows c = λ dialect before read.
    let none : leaves_out dialect (left_of dialect before) c.args.byte ≡ false = sym (c.leaves_out.ensures dialect before read) ∙ c.if-leaves_out.false in
    let holds = holds-still dialect before c.args.byte c.args.self.now read none c.if-self.false _ refl refl refl in
    on_ok_weaker c.scan.result (rows-scanned dialect before c.args.byte c.args.self.now read none c.if-self.false (map fields_of c.args.rows.now.items) (map fields_of c.scan.new.rows.items)) (c.scan.ensures.rows dialect (scan_of dialect (kept_text dialect before)) holds)

pub returns-clause-fault : goal.returns-clause-fault
returns-clause-fault c = λ dialect before behind read.
    let none : leaves_out dialect (left_of dialect before) c.args.byte ≡ false = sym (c.leaves_out.ensures dialect before read) ∙ c.if-leaves_out.false in
    let holds = holds-still dialect before c.args.byte c.args.self.now read none c.if-self.false _ refl refl refl in
    foretold (scan_after dialect (scan_of dialect (kept_text dialect before)) c.args.byte).fault _ c.scan.result (fault-scanned dialect before c.args.byte c.args.self.now read none c.if-self.false behind) (c.scan.ensures.fault dialect (scan_of dialect (kept_text dialect before)) holds)

pub returns-clause-sound : goal.returns-clause-sound
returns-clause-sound c = λ dialect before behind read.
    let none : leaves_out dialect (left_of dialect before) c.args.byte ≡ false = sym (c.leaves_out.ensures dialect before read) ∙ c.if-leaves_out.false in
    let holds = holds-still dialect before c.args.byte c.args.self.now read none c.if-self.false _ refl refl refl in
    on-foretold (scan_after dialect (scan_of dialect (kept_text dialect before)) c.args.byte).fault c.scan.result (sound-scanned dialect before c.args.byte c.args.self.now read none c.if-self.false behind) (c.scan.ensures.fault dialect (scan_of dialect (kept_text dialect before)) holds)

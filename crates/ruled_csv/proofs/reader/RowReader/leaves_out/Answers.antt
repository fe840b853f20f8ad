use Rattle.std.proofs.Common.{◌∙◌, sym, refl, subst, Bool}
use Rattle.std.specs.Prelude.{◌≡◌, not}
use Rattle.ruled_csv.specs.Inside.{begins_out, hand_of, leaves_out, left_of}
use Rattle.ruled_csv.proofs.Readers.{leaves-by, test-begins, test-ends, test-out}
use Rattle.ruled_csv.proofs.reader.RowReader.leaves_out.Goals as goal

pub returns-then-self : goal.returns-then-self
returns-then-self c = λ dialect before read.
    let reader = c.args.self.now in
    test-out _ reader.is_left_out _ (leaves_out dialect (left_of dialect before) c.args.byte) (sym c.ends_line.ensures ∙ c.if-not-ends_line.true) c.if-self.true
    (leaves-by dialect before c.args.byte reader (begins_out reader.scanner.dialect (hand_of reader.scanner) c.args.byte) read refl)

pub returns-else-self : goal.returns-else-self
returns-else-self c = λ dialect before read.
    let reader = c.args.self.now in
    test-begins _ reader.is_left_out c.leaves_out.result (leaves_out dialect (left_of dialect before) c.args.byte) (sym c.ends_line.ensures ∙ c.if-not-ends_line.true) c.if-self.false
    (leaves-by dialect before c.args.byte reader c.leaves_out.result read c.leaves_out.ensures)

pub returns-else-not-ends_line : goal.returns-else-not-ends_line
returns-else-not-ends_line c = λ dialect before read.
    let reader = c.args.self.now in
    let right = leaves_out dialect (left_of dialect before) c.args.byte in
    subst (λ (b : Bool). not b ≡ right) (sym c.ends_line.ensures)
    (test-ends _ reader.is_left_out _ right (sym c.ends_line.ensures ∙ c.if-not-ends_line.false)
    (leaves-by dialect before c.args.byte reader (begins_out reader.scanner.dialect (hand_of reader.scanner) c.args.byte) read refl))

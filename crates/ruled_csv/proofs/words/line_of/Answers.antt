use Rattle.std.proofs.Common.{◌∙◌, ◌++◌, arith, ap}
use Rattle.csv.specs.Records.{fields_of}
use Rattle.ruled_csv.proofs.Scans.{line_first, line_more}
use Rattle.ruled_csv.proofs.words.line_of.Goals as goal
use Rattle.ruled_csv.proofs.words.line_of.Goals.{then-place-gt0+in_ok-push, else-place-gt0}

pub loop-field-preserved : goal.loop-field-preserved
loop-field-preserved c =
    let fields = fields_of c.args.fields.now in
    let old = c.loop-field.line.items in
    let new = c.extend_from_slice.new.self.items in
    let field = c.in-Some.field.now in
    elim c.if-place-gt0.branch [
      | then-place-gt0+in_ok-push w ↦
          line_more fields c.loop-field.place field old c.if-place-gt0.line.items new (omega (arith, w.if-place-gt0.true)) c.in-Some.ensures.value c.loop-field.invariant (ap (λ v. v.items) w.line-is ∙ w.in_ok-push.ensures.items) c.in_ok-extend_from_slice.ensures.items
      | else-place-gt0 w ↦
          line_first fields c.loop-field.place field old new (omega (arith, w.if-place-gt0.false)) c.in-Some.ensures.value c.loop-field.invariant (c.in_ok-extend_from_slice.ensures.items ∙ ap (λ v. v.items ++ field) w.line-is)
    ]

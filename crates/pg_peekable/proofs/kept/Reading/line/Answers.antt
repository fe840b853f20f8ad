use Rattle.std.proofs.Common.{arith, ap, ◌∙◌, [], Option, List, ℕ}
use Rattle.std.specs.Borrow.{Bor}
use Rattle.std.specs.List.{slice_get}
use Rattle.std.specs.Option.{unwrap_or}
use Rattle.std.proofs.lemmas.List.Sums.{count_by-le-length}
use Rattle.std.proofs.lemmas.Option.{unwrap_or-slice_get}
use Rattle.pg_layout.specs.Text.{lines_of}
use Rattle.pg_layout.proofs.TextLines.{is_feed, length-lines_of}
use Rattle.pg_peekable.proofs.RowParts.{lent-or}
use Rattle.pg_peekable.proofs.kept.Reading.line.Goals as goal

pub overflow_add-self : goal.overflow_add-self
overflow_add-self c = omega (arith, c.requires.there, length-lines_of c.args.text.now, count_by-le-length is_feed c.args.text.now)

pub returns-clause-line : goal.returns-clause-line
returns-clause-line c =
    let lines = lines_of c.args.text.now in
    ap (λ (line : Bor (List ℕ)). line.now) c.unwrap_or-found.ensures
    ∙ lent-or c.next_line.result _
    ∙ ap (λ (line : Option (List ℕ)). unwrap_or line []) (c.next_line.ensures.line ∙ ap (slice_get lines) c.cursor_at-cursor.ensures.number)
    ∙ unwrap_or-slice_get lines c.args.line []

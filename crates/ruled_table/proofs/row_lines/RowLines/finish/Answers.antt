use Rattle.std.proofs.Common.{◌∙◌, ◌++◌, ℕ, refl, string_bytes, ap, ap₂}
use Rattle.pg_layout.specs.Text.{Text}
use Rattle.pg_stream.specs.LiveStreams.{Living}
use Rattle.ruled_table.specs.Layouts.{heights_of}
use Rattle.ruled_table.specs.RowLines.{ended, note_below, state_of}
use Rattle.ruled_table.proofs.RowsInParts.{handed-on, below, ends-alive, ends-counted, ends-here, ends-whole}
use Rattle.ruled_table.proofs.row_lines.RowLines.finish.Goals as goal

pub returns-clause-end : goal.returns-clause-end
returns-clause-end c = λ plan cells drawn even.
    let state : (ℕ → ℕ) → Living = λ heights. state_of heights c.args.self.sheet in
    let lines : Text = string_bytes c.print_end.new.lines in
    let is = c.in_ok-print_end.ensures.lines (heights_of cells) (ends-counted plan cells state drawn.plain drawn.prints) (ends-alive plan cells state drawn.plain drawn.prints) (ends-here plan cells state drawn.plain drawn.prints) in
    record {
      more = ended lines ++ below plan cells;
      makes = ends-whole plan cells state drawn.plain drawn.prints lines drawn.some even is;
      bytes =
          c.in_ok-append_end.ensures.appended
          ∙ ap (λ (t : Text). string_bytes c.args.buf.now ++ (ended lines ++ t)) (c.note_below.ensures ∙ ap₂ note_below drawn.begun drawn.noted);
    }

pub returns-in_err-print_end-clause-fault : goal.returns-in_err-print_end-clause-fault
returns-in_err-print_end-clause-fault c = λ plan cells drawn fault same.
    let state : (ℕ → ℕ) → Living = λ heights. state_of heights c.args.self.sheet in
    let told = c.in_err-print_end.ensures.fault (heights_of cells) (ends-counted plan cells state drawn.plain drawn.prints) (ends-alive plan cells state drawn.plain drawn.prints) (ends-here plan cells state drawn.plain drawn.prints) in
    handed-on c.in_err-print_end.field-0.0 c.from_residual.result c.from_residual.ensures.1 (told c.in_err-print_end.field-0.0 refl) fault same

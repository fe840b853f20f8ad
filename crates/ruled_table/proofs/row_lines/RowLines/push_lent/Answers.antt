use Rattle.std.proofs.Common.{ℕ, List, false, map, string_bytes, subst}
use Rattle.pg_layout.specs.Text.{Text}
use Rattle.pg_stream.specs.Conditions.{RowFits}
use Rattle.pg_stream.specs.LiveStreams.{Living}
use Rattle.pg_stream.specs.SizedStreams.{IsNextHeight}
use Rattle.ruled_table.specs.RowLines.{HasNoRoomBelow, ended_by, state_of}
use Rattle.ruled_table.proofs.RowsInParts.{room-on, alive-next, begun-next, next-height, own-heights, plain-next, printed-next, refused-next, some-rows}
use Rattle.ruled_table.proofs.row_lines.RowLines.push_lent.Goals as goal

pub returns-clause-lines : goal.returns-clause-lines
returns-clause-lines g c = λ plan above drawn.
    let cells : List Text = map g.X.AsStr.text c.args.cells.now in
    let lines : Text = string_bytes c.print_lent.new.lines in
    let is_begun = c.args.self.now.is_begun in
    record {
      more = ended_by is_begun lines;
      makes = begun-next plan above cells (λ heights. state_of heights c.args.self.now.sheet) is_begun lines drawn.plain drawn.prints drawn.begun
          (λ heights high. rw c.clear.ensures.bytes at (c.in_ok-print_lent.ensures.lines heights (subst (λ (n : ℕ). IsNextHeight (state_of heights c.args.self.now.sheet).printed n) c.requires.single high)));
      bytes = c.in_ok-append_lines.ensures.appended;
    }

pub returns-clause-after : goal.returns-clause-after
returns-clause-after g c = λ plan above drawn.
    let cells : List Text = map g.X.AsStr.text c.args.cells.now in
    record {
      some = drawn.some;
      plain = drawn.plain;
      noted = drawn.noted;
      begun = some-rows above cells;
      prints = printed-next plan above cells (λ heights. state_of heights c.args.self.now.sheet) (λ heights. state_of heights c.print_lent.new.sheet) drawn.prints
          (λ heights high. c.in_ok-print_lent.ensures.after heights (subst (λ (n : ℕ). IsNextHeight (state_of heights c.args.self.now.sheet).printed n) c.requires.single high));
    }

pub returns-in_err-print_lent-clause-room : goal.returns-in_err-print_lent-clause-room
returns-in_err-print_lent-clause-room g c = λ plan above drawn.
    let cells : List Text = map g.X.AsStr.text c.args.cells.now in
    let old : (ℕ → ℕ) → Living = λ heights. state_of heights c.args.self.now.sheet in
    let own = own-heights plan above cells in
    let high = next-height plan above cells old drawn.prints own (alive-next plan above cells old drawn.prints).0 in
    room-on (¬ (RowFits (old own).printed cells false)) (HasNoRoomBelow plan above cells) c.in_err-print_lent.field-0.0 c.from_residual.result
    (refused-next plan above cells old drawn.prints)
    (c.in_err-print_lent.ensures.room own (subst (λ (n : ℕ). IsNextHeight (state_of own c.args.self.now.sheet).printed n) c.requires.single high) (alive-next plan above cells old drawn.prints).1 (plain-next plan above cells old drawn.plain drawn.prints)) c.from_residual.ensures.1

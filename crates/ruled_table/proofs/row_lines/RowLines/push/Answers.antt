use Rattle.std.proofs.Common.{ℕ, List, false, map, string_bytes}
use Rattle.std.specs.Cow.{cow_str_bytes}
use Rattle.pg_layout.specs.Text.{Text}
use Rattle.pg_stream.specs.Conditions.{RowFits}
use Rattle.pg_stream.specs.LiveStreams.{Living}
use Rattle.ruled_table.specs.RowLines.{HasNoRoomBelow, ended_by, state_of}
use Rattle.ruled_table.proofs.RowsInParts.{room-on, alive-next, begun-next, next-height, own-heights, plain-next, printed-next, refused-next, some-rows}
use Rattle.ruled_table.proofs.row_lines.RowLines.push.Goals as goal

pub returns-clause-lines : goal.returns-clause-lines
returns-clause-lines c = λ plan above drawn.
    let cells : List Text = map cow_str_bytes c.args.cells.items in
    let lines : Text = string_bytes c.print_row.new.lines in
    let is_begun = c.args.self.now.is_begun in
    record {
      more = ended_by is_begun lines;
      makes = begun-next plan above cells (λ heights. state_of heights c.args.self.now.sheet) is_begun lines drawn.plain drawn.prints drawn.begun c.in_ok-print_row.ensures.lines;
      bytes = c.in_ok-append_lines.ensures.appended;
    }

pub returns-clause-after : goal.returns-clause-after
returns-clause-after c = λ plan above drawn.
    let cells : List Text = map cow_str_bytes c.args.cells.items in
    record {
      some = drawn.some;
      plain = drawn.plain;
      noted = drawn.noted;
      begun = some-rows above cells;
      prints = printed-next plan above cells (λ heights. state_of heights c.args.self.now.sheet) (λ heights. state_of heights c.print_row.new.sheet) drawn.prints c.in_ok-print_row.ensures.after;
    }

pub returns-in_err-print_row-clause-room : goal.returns-in_err-print_row-clause-room
returns-in_err-print_row-clause-room c = λ plan above drawn.
    let cells : List Text = map cow_str_bytes c.args.cells.items in
    let old : (ℕ → ℕ) → Living = λ heights. state_of heights c.args.self.now.sheet in
    let own = own-heights plan above cells in
    let high = next-height plan above cells old drawn.prints own (alive-next plan above cells old drawn.prints).0 in
    room-on (¬ (RowFits (old own).printed cells false)) (HasNoRoomBelow plan above cells) c.in_err-print_row.field-0.0 c.from_residual.result
    (refused-next plan above cells old drawn.prints)
    (c.in_err-print_row.ensures.room own high (alive-next plan above cells old drawn.prints).1 (plain-next plan above cells old drawn.plain drawn.prints)) c.from_residual.ensures.1

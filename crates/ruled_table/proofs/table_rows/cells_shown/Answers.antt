use Rattle.std.proofs.Common.{◌≡◌, ◌∷◌, ◌++◌, [], ℕ, List, None, Option, length, map, slice_index_or, arith, rules}
use Rattle.std.specs.Cow.{cow_str_bytes}
use Rattle.csv.specs.Records.{fields_of}
use Rattle.pg_layout.specs.Text.{Text}
use Rattle.ruled_table.specs.Columns.{drawn_at}
use Rattle.ruled_table.specs.Shown.{shown_text}
use Rattle.ruled_table.specs.Widths.{room_of, text_within, widths_in}
use Rattle.ruled_table.proofs.RowsInParts.{within-all, within-next}
use Rattle.ruled_table.proofs.table_rows.cells_shown.Goals as goal

pub loop-place-preserved : goal.loop-place-preserved
loop-place-preserved c =
    let options = c.args.options.now in
    let overflow = options.bounds.overflow in
    let fields : List Text = fields_of c.args.fields.now in
    let places : List (Option ℕ) = c.args.places.now in
    let i = c.loop-place.place-index in
    let made = c.loop-place.cells.items in
    let width : ℕ → ℕ = widths_in c.args.widths.now in
    let next : map cow_str_bytes c.push_shown.new.cells.items ≡ map cow_str_bytes made ++ text_within overflow (room_of width (length made)) (shown_text options (drawn_at fields (slice_index_or places i None))) ∷ [] =
    search (rules, c.in_ok-push_shown.ensures)
    in
    within-next cow_str_bytes overflow width (λ place. shown_text options (drawn_at fields place)) places made c.push_shown.new.cells.items i (omega arith) next
    c.loop-place.invariant

pub returns : goal.returns
returns c =
    let options = c.args.options.now in
    within-all cow_str_bytes options.bounds.overflow (widths_in c.args.widths.now) (λ place. shown_text options (drawn_at (fields_of c.args.fields.now) place)) c.args.places.now c.loop-place.cells.items c.loop-place.place-index (omega arith)
    c.loop-place.invariant

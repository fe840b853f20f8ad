use Rattle.std.proofs.Common.{◌≡◌, ◌∙◌, ◌<◌, ◌≤◌, ◌∷◌, ◌+◌, ℕ, List, Option, [], drop, length, max, slice_index_or, ap, arith}
use Rattle.std.proofs.lemmas.List.{drop_all}
use Rattle.csv.specs.Records.{Row, fields_of}
use Rattle.pg_layout.specs.Text.{text_width_of}
use Rattle.ruled_table.specs.Columns.{fields_at, texts_at}
use Rattle.ruled_table.specs.Bounds.{widest_text}
use Rattle.ruled_table.proofs.LentTexts.{drop_next}
use Rattle.ruled_table.proofs.ranges.widest_text.Goals as goal

pub loop-fields-preserved : goal.loop-fields-preserved
loop-fields-preserved c =
    let rows : List Row = c.args.rows.records.now in
    let places : List (Option ℕ) = c.args.rows.places.now in
    let i = c.loop-fields.fields-index in
    let within : i < length rows = omega arith in
    let next : drop i rows ≡ c.fields-item.result ∷ drop (i + 1) rows = drop_next rows i c.fields-item.result within c.fields-item.is in
    let rest : ℕ = widest_text (texts_at places (drop (i + 1) rows)) c.args.column in
    let here : ℕ = text_width_of (slice_index_or (fields_at places (fields_of c.fields-item.result)) c.args.column []) in
    let before : max c.loop-fields.width (max here rest) ≡ widest_text (texts_at places rows) c.args.column = rw next at c.loop-fields.invariant in
    let width : c.raised_to-width.result ≡ max c.loop-fields.width here = omega (arith, c.raised_to-width.ensures, ap text_width_of c.text_in.ensures) in
    omega (arith, before, width)

pub returns : goal.returns
returns c =
    let rows : List Row = c.args.rows.records.now in
    let i = c.loop-fields.fields-index in
    let past : length rows ≤ i = omega arith in
    let before = rw (drop_all i rows past) at c.loop-fields.invariant in
    omega (arith, before)

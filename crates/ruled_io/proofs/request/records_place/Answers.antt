use Rattle.std.proofs.Common.{◌≡◌, ◌∙◌, ◌∷◌, ◌<◌, ◌≤◌, List, [], length, map, slice_index_or, sym, ap, arith}
use Rattle.std.specs.List.{position}
use Rattle.std.proofs.lemmas.Iterator.Adapters.{position_from-zero}
use Rattle.csv.specs.Records.{Row, fields_of}
use Rattle.pg_layout.specs.Text.{Text}
use Rattle.ruled_table.proofs.WordsOfColumns.{passes_here, passes_later, passes_nowhere}
use Rattle.ruled_io.specs.Requests.{has_records, records_place}
use Rattle.ruled_io.proofs.request.records_place.Goals as goal

-- one record is below row 0
alone : (rows : List Row) (fields : Row) → 2 ≤ length rows → length rows < 3 → fields ≡ slice_index_or rows 1 fields → records_place (map fields_of rows) ≡ position has_records (fields_of fields)
alone [] fields least most is = absurd (omega (arith, least))
alone (x ∷ []) fields least most is = absurd (omega (arith, least))
alone (x ∷ (y ∷ [])) fields least most is = ap (λ (row : Row). position has_records (fields_of row)) (sym is)
alone (x ∷ (y ∷ (z ∷ rows))) fields least most is = absurd (omega (arith, most))

pub loop-place-init : goal.loop-place-init
loop-place-init c = position_from-zero has_records (fields_of c.fields-item.result)

pub returns-then-has_records : goal.returns-then-has_records
returns-then-has_records c =
    let fields : List Text = fields_of c.fields-item.result in
    let within : c.loop-place.place < length fields = omega (arith, c.loop-place-test.true, c.len-place-end.ensures) in
    sym (
    alone c.args.rows.now c.fields-item.result c.in-len2.len_at_least c.in-len2.len_below c.fields-item.is
    ∙ c.loop-place.invariant
    ∙ passes_here has_records fields c.loop-place.place [] within (ap has_records (sym c.field_at.ensures) ∙ sym c.has_records.ensures ∙ c.if-has_records.true)
    )

pub loop-place-preserved : goal.loop-place-preserved
loop-place-preserved c =
    let fields : List Text = fields_of c.fields-item.result in
    let within : c.loop-place.place < length fields = omega (arith, c.loop-place-test.true, c.len-place-end.ensures) in
    c.loop-place.invariant ∙ passes_later has_records fields c.loop-place.place [] within (ap has_records (sym c.field_at.ensures) ∙ sym c.has_records.ensures ∙ c.if-has_records.false)

pub returns : goal.returns
returns c =
    let fields : List Text = fields_of c.fields-item.result in
    let past : length fields ≤ c.loop-place.place = omega (arith, c.loop-place-test.false, c.len-place-end.ensures) in
    sym (alone c.args.rows.now c.fields-item.result c.in-len2.len_at_least c.in-len2.len_below c.fields-item.is ∙ c.loop-place.invariant ∙ passes_nowhere has_records fields c.loop-place.place past)

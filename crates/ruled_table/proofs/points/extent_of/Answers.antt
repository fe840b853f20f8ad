use Rattle.std.proofs.Common.{◌≡◌, ◌∙◌, ◌<◌, ◌≤◌, ◌∷◌, ◌+◌, ℕ, List, Option, [], drop, length, max, slice_index_or, ap, ap₂, arith}
use Rattle.std.proofs.lemmas.List.{drop_all}
use Rattle.csv.specs.Records.{Row, fields_of}
use Rattle.ruled_table.specs.Columns.{fields_at, texts_at}
use Rattle.pg_table.specs.Numbers.{own_extent}
use Rattle.ruled_table.specs.Sides.{extent_of}
use Rattle.pg_table.specs.declared.numbers.Extent.{Extent}
use Rattle.ruled_table.proofs.LentTexts.{drop_next}
use Rattle.ruled_table.proofs.points.extent_of.Goals as goal

pub loop-fields-preserved : goal.loop-fields-preserved
loop-fields-preserved c =
    let rows : List Row = c.args.rows.records.now in
    let places : List (Option ℕ) = c.args.rows.places.now in
    let i = c.loop-fields.fields-index in
    let within : i < length rows = omega arith in
    let next : drop i rows ≡ c.fields-item.result ∷ drop (i + 1) rows = drop_next rows i c.fields-item.result within c.fields-item.is in
    let here : Extent = own_extent (slice_index_or (fields_at places (fields_of c.fields-item.result)) c.args.column []) in
    let later : Extent = extent_of (texts_at places (drop (i + 1) rows)) c.args.column in
    let all : Extent = extent_of (texts_at places rows) c.args.column in
    let own : c.own_extent-here.result ≡ here = c.own_extent-here.ensures ∙ ap own_extent c.text_in.ensures in
    let whole : max c.loop-fields.whole (max here.whole later.whole) ≡ all.whole = rw next at c.loop-fields.invariant.whole in
    let rest : max c.loop-fields.rest (max here.rest later.rest) ≡ all.rest = rw next at c.loop-fields.invariant.rest in
    record {
      whole = omega (arith, whole, ap (λ (e : Extent). e.whole) own, c.max-whole.ensures);
      rest = omega (arith, rest, ap (λ (e : Extent). e.rest) own, c.max-rest.ensures);
    }

pub returns : goal.returns
returns c =
    let rows : List Row = c.args.rows.records.now in
    let i = c.loop-fields.fields-index in
    let past : length rows ≤ i = omega arith in
    let all : Extent = extent_of (texts_at c.args.rows.places.now rows) c.args.column in
    let whole = rw (drop_all i rows past) at c.loop-fields.invariant.whole in
    let rest = rw (drop_all i rows past) at c.loop-fields.invariant.rest in
    let first : c.loop-fields.whole ≡ all.whole = omega (arith, whole) in
    let second : c.loop-fields.rest ≡ all.rest = omega (arith, rest) in
    let made : ℕ → ℕ → Extent = λ w r. record { whole = w; rest = r } in
    ap₂ made first second

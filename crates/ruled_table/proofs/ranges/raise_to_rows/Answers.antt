use Rattle.std.proofs.Common.{◌≡◌, ◌∙◌, ◌<◌, ◌≤◌, ◌∷◌, ◌+◌, ◌^◌, ℕ, List, Option, [], true, nat_lt, drop, length, max, slice_index, slice_index_or, sym, ap, arith, rules}
use Rattle.std.proofs.lemmas.Bool.Decides.{nat_tests}
use Rattle.std.proofs.lemmas.List.{drop_all}
use Rattle.std.proofs.lemmas.List.FromFn.{fill_by_all}
use Rattle.csv.specs.Records.{Row, fields_of}
use Rattle.pg_layout.specs.Records.{columns_of}
use Rattle.pg_layout.specs.Text.{text_width_of}
use Rattle.ruled_table.specs.Columns.{fields_at, texts_at}
use Rattle.ruled_table.specs.Bounds.{are_counted, widest_text}
use Rattle.ruled_table.proofs.LentTexts.{columns-some, drop_next}
use Rattle.ruled_table.proofs.ranges.raise_to_rows.Goals as goal

pub raise_to_row-requires : goal.raise_to_row-requires
raise_to_row-requires c =
    let rows : List Row = c.args.rows.records.now in
    let places : List (Option ℕ) = c.args.rows.places.now in
    let some : 0 < length rows = omega arith in
    omega (arith, c.loop-fields.invariant.many, columns-some places rows some)

pub loop-fields-preserved : goal.loop-fields-preserved
loop-fields-preserved c =
    let rows : List Row = c.args.rows.records.now in
    let places : List (Option ℕ) = c.args.rows.places.now in
    let i = c.loop-fields.fields-index in
    let row : Row = c.fields-item.result in
    let within : i < length rows = omega arith in
    let next : drop i rows ≡ row ∷ drop (i + 1) rows = drop_next rows i row within c.fields-item.is in
    let long : columns_of (texts_at places rows) ≡ length places = columns-some places rows (omega (arith, within)) in
    let short : nat_lt (length row.bytes) (2 ^ 63) ≡ true = grind (arith, nat_tests, c.raise_to_row.ensures.counted) in
    let counted : are_counted (row ∷ drop (i + 1) rows) ≡ are_counted rows = rw next at c.loop-fields.invariant.counted in
    record {
      many = omega (arith, c.raise_to_row.ensures.same, c.loop-fields.invariant.many);
      widths = λ k h.
          let here : ℕ = text_width_of (slice_index_or (fields_at places (fields_of row)) k []) in
          let before : max (slice_index c.loop-fields.widths k) (max here (widest_text (texts_at places (drop (i + 1) rows)) k)) ≡ widest_text (texts_at places rows) k =
          rw next at c.loop-fields.invariant.widths k (omega (arith, h, c.raise_to_row.ensures.same))
          in
          omega (arith, before, c.raise_to_row.ensures.raised k (omega (arith, h, c.raise_to_row.ensures.same, c.loop-fields.invariant.many, long)));
      counted = rw short at counted;
    }

pub returns-clause-widths : goal.returns-clause-widths
returns-clause-widths c =
    let rows : List Row = c.args.rows.records.now in
    let places : List (Option ℕ) = c.args.rows.places.now in
    let i = c.loop-fields.fields-index in
    let past : length rows ≤ i = omega arith in
    fill_by_all (widest_text (texts_at places rows)) c.loop-fields.widths (columns_of (texts_at places rows)) 0 c.loop-fields.invariant.many
    (λ k h. let before = rw (drop_all i rows past) at c.loop-fields.invariant.widths k (omega (arith, h, c.loop-fields.invariant.many)) in omega (arith, before))

pub returns-clause-counted : goal.returns-clause-counted
returns-clause-counted c =
    let rows : List Row = c.args.rows.records.now in
    let past : length rows ≤ c.loop-fields.fields-index = omega arith in
    sym (rw (drop_all c.loop-fields.fields-index rows past) at c.loop-fields.invariant.counted)

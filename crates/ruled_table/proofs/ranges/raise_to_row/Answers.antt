use Rattle.std.proofs.Common.{◌≡◌, ◌≢◌, ◌<◌, ◌∙◌, ℕ, List, [], None, Option, ap, arith, length, max, rules, slice_index, slice_index_or, sym, length-set, get_or-set_other}
use Rattle.std.proofs.lemmas.List.{get_or-map}
use Rattle.csv.specs.Records.{fields_of}
use Rattle.pg_layout.specs.Text.{Text, text_width_of}
use Rattle.pg_table.proofs.ListedSizes.{one_more}
use Rattle.ruled_table.specs.Columns.{drawn_at, fields_at}
use Rattle.ruled_table.proofs.ranges.raise_to_row.Goals as goal

pub loop-column-preserved : goal.loop-column-preserved
loop-column-preserved c =
    let i : ℕ = c.loop-column.column in
    let widths : List ℕ = c.loop-column.widths in
    let places : List (Option ℕ) = c.args.places.now in
    let fields : List Text = fields_of c.args.fields.now in
    let within : i < length places = omega arith in
    let inside : i < length widths = omega (arith, c.loop-column.invariant.same, within) in
    let there : slice_index_or (fields_at places fields) i [] ≡ drawn_at fields (slice_index_or places i None) = get_or-map (drawn_at fields) places i None [] within in
    let drawn : c.drawn_at.result.now ≡ drawn_at fields (slice_index_or places i None) = search (rules, c.drawn_at.ensures) in
    let width : c.raised_to.result ≡ max (slice_index widths i) (text_width_of (slice_index_or (fields_at places fields) i [])) =
    omega (arith, c.raised_to.ensures, ap text_width_of (drawn ∙ sym there))
    in
    let own = c.loop-column.invariant.after i (omega arith) in
    record {
      same = omega (arith, length-set widths i c.raised_to.result, c.loop-column.invariant.same);
      before = λ k h. one_more widths (λ j. max (slice_index c.args.widths.now j) (text_width_of (slice_index_or (fields_at places fields) j []))) i c.raised_to.result k inside (omega (arith, width, own)) (c.loop-column.invariant.before k) h;
      after = λ k h. let ne : k ≢ i = omega (arith, h) in rw get_or-set_other (c.loop-column.invariant.after k (omega (arith, h)));
    }

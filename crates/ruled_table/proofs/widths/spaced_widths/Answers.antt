use Rattle.std.proofs.Common.{◌≡◌, ◌∙◌, ◌<◌, ◌+◌, ◌^◌, ℕ, List, drop, length, map, slice_index, subst, sym, ap, arith}
use Rattle.std.specs.List.{range_with_len}
use Rattle.std.proofs.lemmas.List.FromFn.{get_or-map-range_with_len, length-map-range_with_len}
use Rattle.pg_layout.specs.Records.{columns_of}
use Rattle.pg_layout.specs.Text.{Text}
use Rattle.pg_table.proofs.ListedSizes.{seam}
use Rattle.ruled_table.specs.Columns.{texts_of}
use Rattle.ruled_table.specs.Bounds.{widest_text}
use Rattle.ruled_table.specs.Widths.{AreSpaced}
use Rattle.ruled_table.proofs.widths.spaced_widths.Goals as goal

pub returns-then-add_spaces : goal.returns-then-add_spaces
returns-then-add_spaces c =
    let texts : List (List Text) = texts_of c.args.records in
    let columns : ℕ = columns_of texts in
    let new : List ℕ = c.add_spaces.new.widths in
    let are : c.deref_mut.result.now ≡ map (widest_text texts) (range_with_len 0 columns) = c.deref_mut.ensures.value ∙ c.in_ok-widths.ensures.widths in
    let whole : length c.deref_mut.result.now ≡ columns = ap length are ∙ length-map-range_with_len (widest_text texts) 0 columns in
    let long : length new ≡ c.in_ok-widths.widths.len = omega (arith, c.add_spaces.ensures.same, ap length c.deref_mut.ensures.value, c.deref_mut.ensures.len) in
    let own : (k : ℕ) → k < columns → slice_index c.deref_mut.result.now k ≡ widest_text texts k = λ k h.
    ap (λ (xs : List ℕ). slice_index xs k) are ∙ get_or-map-range_with_len (widest_text texts) 0 columns k k 0 h (omega arith)
    in
    let each : (k : ℕ) → k < columns → slice_index new k ≡ widest_text texts k + 2 = λ k h. omega (arith, c.add_spaces.ensures.spaced c.if-add_spaces.true k (omega (arith, h, whole)), own k h) in
    let counted : (k : ℕ) → k < columns → widest_text texts k + 2 < 2 ^ 64 = λ k h. omega (arith, c.add_spaces.ensures.counted c.if-add_spaces.true k (omega (arith, h, whole)), own k h) in
    let is = seam new (drop (length new) c.in_ok-widths.widths.items) c.in_ok-widths.widths.len long in
    let many : length new ≡ columns = omega (arith, c.add_spaces.ensures.same, whole) in
    let spaced : AreSpaced c.args.records new = record {
      some = omega (arith, c.count_columns.ensures.value, many);
      columns = many;
      each = λ k h. each k (omega (arith, h, many));
      counted = λ k h. counted k (omega (arith, h, many));
      short = c.in_ok-widths.ensures.counted;
    }
    in
    subst (AreSpaced c.args.records) (sym is) spaced

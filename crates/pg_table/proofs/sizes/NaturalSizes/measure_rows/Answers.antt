use Rattle.std.proofs.Common.{◌≡◌, ℕ, List, [], ◌∷◌, ◌++◌, map, length, slice_index, refl, sym, ap, ◌∙◌, arith}
use Rattle.std.specs.List.{range_with_len}
use Rattle.std.proofs.lemmas.List.FromFn.{map-range_with_len_more, fill_by_all}
use Rattle.pg_layout.specs.declared.position.Position.{Position}
use Rattle.pg_layout.specs.Records.{text_at}
use Rattle.pg_layout.specs.Text.{Text}
use Rattle.pg_config.specs.Config.{Config}
use Rattle.pg_table.specs.Inside.{most, high, wide}
use Rattle.pg_table.proofs.ListedSizes.{most-none, most-row}
use Rattle.pg_table.proofs.sizes.NaturalSizes.measure_rows.Goals as goal

pub loop-row-init : goal.loop-row-init
loop-row-init g c =
    let config : Config = c.args.self.now.config.now in
    let text : Position → Text = text_at (g.R.Records.texts c.args.self.now.records) in
    record {
      same = refl;
      heights = c.in_ok-heights.ensures.items;
      widths = λ k h. c.requires.zeros k ∙ sym (most-none (λ r. wide config text r k));
    }

pub loop-row-preserved : goal.loop-row-preserved
loop-row-preserved g c =
    let config : Config = c.args.self.now.config.now in
    let text : Position → Text = text_at (g.R.Records.texts c.args.self.now.records) in
    let columns : ℕ = g.R.Records.columns c.args.self.now.records in
    let row : ℕ = c.loop-row.row in
    let by_row : ℕ → ℕ = λ r. most (high config text r) columns in
    record {
      same = c.in-Some.ensures.same ∙ c.loop-row.invariant.same;
      heights =
          c.in_ok-push-in-Some.ensures.items
          ∙ ap (λ (xs : List ℕ). xs ++ c.in-Some.height ∷ []) c.loop-row.invariant.heights
          ∙ ap (λ (m : ℕ). map by_row (range_with_len 0 row) ++ m ∷ []) c.in-Some.ensures.height
          ∙ sym (map-range_with_len_more by_row 0 row row (omega arith));
      widths = λ k h. most-row (slice_index c.loop-row.widths k) (slice_index c.measure_row.new.widths k) (λ r. wide config text r k) row (c.loop-row.invariant.widths k h) (c.in-Some.ensures.widths k (omega (arith, h, c.requires.same)));
    }

pub returns-clause-widths : goal.returns-clause-widths
returns-clause-widths g c =
    let config : Config = c.args.self.now.config.now in
    let text : Position → Text = text_at (g.R.Records.texts c.args.self.now.records) in
    let rows : ℕ = length (g.R.Records.texts c.args.self.now.records) in
    let all : c.loop-row.row ≡ rows = omega (arith, c.loop-row-test.false, c.loop-row.auto.row-end, c.count_rows-row-end.ensures) in
    fill_by_all (λ i. most (λ r. wide config text r i) rows) c.loop-row.widths (g.R.Records.columns c.args.self.now.records) 0 (c.loop-row.invariant.same ∙ c.requires.same)
    (λ k h. c.loop-row.invariant.widths k (omega (arith, h, c.requires.same)) ∙ ap (λ n. most (λ r. wide config text r k) n) all)

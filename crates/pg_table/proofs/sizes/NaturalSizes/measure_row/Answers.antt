use Rattle.std.proofs.Common.{◌≡◌, ℕ, ◌+◌, ◌-◌, ◌<◌, ◌≢◌, max, false, length, slice_index, refl, sym, ap, ◌∙◌, subst, arith, inl, inr}
use Rattle.pg_layout.specs.declared.position.Position.{Position}
use Rattle.pg_layout.specs.Position.{at}
use Rattle.pg_layout.specs.Records.{text_at}
use Rattle.pg_layout.specs.Text.{Text}
use Rattle.pg_config.specs.Config.{Config}
use Rattle.pg_config.specs.Spans.{left_span}
use Rattle.pg_picture.specs.Inside.{columns_or_one}
use Rattle.pg_picture.proofs.FirstPlaces.{step-some, step-inside, step-left}
use Rattle.pg_picture.proofs.OwnersOfPlaces.{InOrder, first_left}
use Rattle.std.proofs.lemmas.Bool.{cases_order}
use Rattle.pg_table.specs.Natural.{is_single, single_size}
use Rattle.pg_table.specs.declared.sizes.Axis.TheVariants.{Columns, Rows}
use Rattle.pg_table.specs.Inside.{most, high, wide}
use Rattle.pg_table.proofs.ListedSizes.{most-none, most-more, most-skip}
use Rattle.pg_table.proofs.ShownCells.{told, passed}
use Rattle.pg_table.proofs.sizes.NaturalSizes.measure_row.Goals as goal

pub loop-col-init : goal.loop-col-init
loop-col-init g c =
    let self = c.args.self.now in
    let order : InOrder self.config.now.spans (length (g.R.Records.texts self.records)) (g.R.Records.columns self.records) = record { ascending = c.spans-spans.ensures.ascending; fit = c.requires.fit } in
    record {
      same = refl;
      left = first_left self.config.now.spans (length (g.R.Records.texts self.records)) (g.R.Records.columns self.records) order c.args.row;
      inside = omega arith;
      height = sym (most-none (high self.config.now (text_at (g.R.Records.texts self.records)) c.args.row));
      before = λ k h. absurd (omega (arith, h));
      after = λ k h. refl;
    }

pub measure_place-requires-clause-single : goal.measure_place-requires-clause-single
measure_place-requires-clause-single g c =
    let self = c.args.self.now in
    let order : InOrder self.config.now.spans (length (g.R.Records.texts self.records)) (g.R.Records.columns self.records) = record { ascending = c.spans-spans.ensures.ascending; fit = c.requires.fit } in
    let found : c.left_span-span.result ≡ left_span self.config.now.spans c.args.row c.loop-col.col = c.left_span-span.ensures ∙ ap (λ (p : Position). left_span self.config.now.spans p.row p.col) c.new-pos.ensures in
    told self.config.now.spans (length (g.R.Records.texts self.records)) (g.R.Records.columns self.records) order c.args.row c.loop-col.col c.left_span-span.result c.loop-col.invariant.left found
    ∙ ap (λ (p : Position). is_single self.config.now.spans p) (sym c.new-pos.ensures)

pub overflow_add-col : goal.overflow_add-col
overflow_add-col g c =
    let self = c.args.self.now in
    let spans = self.config.now.spans in
    let rows : ℕ = length (g.R.Records.texts self.records) in
    let columns : ℕ = g.R.Records.columns self.records in
    let order : InOrder spans rows columns = record { ascending = c.spans-spans.ensures.ascending; fit = c.requires.fit } in
    let here : c.loop-col.col < columns = omega (arith, c.loop-col-test.true, c.count_columns-columns.ensures.value) in
    let width : c.columns_of-col.result ≡ columns_or_one (left_span spans c.args.row c.loop-col.col) = c.columns_of-col.ensures ∙ ap columns_or_one (c.left_span-span.ensures ∙ ap (λ (p : Position). left_span spans p.row p.col) c.new-pos.ensures) in
    omega (arith, step-inside spans rows columns order c.args.row c.loop-col.col c.columns_of-col.result width c.loop-col.invariant.left here, c.count_columns-columns.type_inv, c.count_columns-columns.ensures.value)

-- a place that counts for nothing asks for nothing
nothing_asked : (config : Config) (text : Position → Text) (r k : ℕ) → is_single config.spans (at r k) ≡ false → (high config text r k ≡ 0) × (wide config text r k ≡ 0)
nothing_asked config text r k none = (rw none refl, rw none refl)

pub loop-col-preserved : goal.loop-col-preserved
loop-col-preserved g c =
    let self = c.args.self.now in
    let config : Config = self.config.now in
    let spans = self.config.now.spans in
    let rows : ℕ = length (g.R.Records.texts self.records) in
    let columns : ℕ = g.R.Records.columns self.records in
    let text : Position → Text = text_at (g.R.Records.texts self.records) in
    let row : ℕ = c.args.row in
    let col : ℕ = c.loop-col.col in
    let w : ℕ = c.columns_of-col.result in
    let order : InOrder spans rows columns = record { ascending = c.spans-spans.ensures.ascending; fit = c.requires.fit } in
    let here : col < columns = omega (arith, c.loop-col-test.true, c.count_columns-columns.ensures.value) in
    let width : w ≡ columns_or_one (left_span spans row col) = c.columns_of-col.ensures ∙ ap columns_or_one (c.left_span-span.ensures ∙ ap (λ (p : Position). left_span spans p.row p.col) c.new-pos.ensures) in
    let some : 0 < w = step-some spans rows columns order row col w width c.loop-col.invariant.left here in
    let rest : (k : ℕ) → col < k → k < col + w → is_single spans (at row k) ≡ false = λ k h l. passed spans rows columns order row col k w width h l in
    let place : c.new-pos.result ≡ at row col = c.new-pos.ensures in
    let column : c.new-pos.result.col ≡ col = ap (λ (p : Position). p.col) place in
    let higher : c.in_ok-higher.higher ≡ max c.loop-col.height (high config text row col) = subst (λ p. c.in_ok-higher.higher ≡ max c.loop-col.height (single_size Rows config text p)) place c.in_ok-higher.ensures.height in
    let wider : slice_index c.measure_place.new.widths col ≡ max (slice_index c.loop-col.widths col) (wide config text row col) = subst (λ p. slice_index c.measure_place.new.widths p.col ≡ max (slice_index c.loop-col.widths p.col) (single_size Columns config text p)) place c.in_ok-higher.ensures.here in
    let other : (k : ℕ) → k ≢ col → slice_index c.measure_place.new.widths k ≡ slice_index c.loop-col.widths k = λ k ne. c.in_ok-higher.ensures.others k (λ e. ne (e ∙ column)) in
    let whole : (col + 1) + (w - 1) ≡ col + w = omega (arith, some) in
    record {
      same = c.in_ok-higher.ensures.same ∙ c.loop-col.invariant.same;
      left = step-left spans rows columns order row col w width c.loop-col.invariant.left here;
      inside = step-inside spans rows columns order row col w width c.loop-col.invariant.left here;
      height = omega (
        arith,
        higher,
        c.loop-col.invariant.height,
        most-more (high config text row) col,
        most-skip (high config text row) (col + 1) (w - 1) (λ k l m. (nothing_asked config text row k (rest k (omega (arith, l)) (omega (arith, m, whole)))).0),
        ap (λ n. most (high config text row) n) whole,
      );
      before = λ k h. elim (cases_order k col) [
        | inl e ↦ subst (λ i. slice_index c.measure_place.new.widths i ≡ max (slice_index c.args.widths.now i) (wide config text row i)) (sym e) (omega (arith, wider, c.loop-col.invariant.after col (omega arith)))
        | inr o ↦ elim o [
          | inl below ↦ other k (λ e. omega (arith, e, below)) ∙ c.loop-col.invariant.before k below
          | inr above ↦ omega (arith, other k (λ e. omega (arith, e, above)), c.loop-col.invariant.after k (omega (arith, above)), (nothing_asked config text row k (rest k above h)).1)
        ]
      ];
      after = λ k h. other k (λ e. omega (arith, e, h, some)) ∙ c.loop-col.invariant.after k (omega (arith, h));
    }

pub loop-col-smaller : goal.loop-col-smaller
loop-col-smaller g c =
    let self = c.args.self.now in
    let spans = self.config.now.spans in
    let rows : ℕ = length (g.R.Records.texts self.records) in
    let columns : ℕ = g.R.Records.columns self.records in
    let order : InOrder spans rows columns = record { ascending = c.spans-spans.ensures.ascending; fit = c.requires.fit } in
    let here : c.loop-col.col < columns = omega (arith, c.loop-col-test.true, c.count_columns-columns.ensures.value) in
    let width : c.columns_of-col.result ≡ columns_or_one (left_span spans c.args.row c.loop-col.col) = c.columns_of-col.ensures ∙ ap columns_or_one (c.left_span-span.ensures ∙ ap (λ (p : Position). left_span spans p.row p.col) c.new-pos.ensures) in
    omega (arith, here, step-some spans rows columns order c.args.row c.loop-col.col c.columns_of-col.result width c.loop-col.invariant.left here)

pub returns : goal.returns
returns g c =
    let self = c.args.self.now in
    let columns : ℕ = g.R.Records.columns self.records in
    let text : Position → Text = text_at (g.R.Records.texts self.records) in
    let all : c.loop-col.col ≡ columns = omega (arith, c.loop-col-test.false, c.count_columns-columns.ensures.value, c.loop-col.invariant.inside) in
    record {
      same = c.loop-col.invariant.same;
      height = c.loop-col.invariant.height ∙ ap (λ n. most (high self.config.now text c.args.row) n) all;
      widths = λ k h. c.loop-col.invariant.before k (omega (arith, h, all));
      huge = λ e. cc;
    }

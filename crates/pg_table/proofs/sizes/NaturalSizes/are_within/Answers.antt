use Rattle.std.proofs.Common.{◌≡◌, ℕ, ◌-◌, ◌<◌, ◌≤◌, true, length, slice_index, sum_by, sym, ap, ◌∙◌, arith, inl, inr}
use Rattle.std.specs.List.{range_with_len}
use Rattle.std.proofs.lemmas.Bool.{cases_lt, false≢true}
use Rattle.std.proofs.lemmas.Bool.Decides.{nat_tests}
use Rattle.pg_table.specs.Natural.{all_fit}
use Rattle.pg_table.specs.Fitted.{beside_columns, limit_of, IsNarrow}
use Rattle.pg_table.specs.Inside.{AreWithin, size_of}
use Rattle.pg_table.specs.declared.sizes.Axis.TheVariants.{Columns}
use Rattle.pg_table.proofs.ListedSizes.{none-past, some-below, one-past, all_fit-each, sum-more, sum-below, sum-listed, size-at}
use Rattle.pg_table.proofs.FittedColumns.{on-true}
use Rattle.pg_table.proofs.NaturalRoom.{plain-widths, plain-naturals}
use Rattle.pg_table.proofs.sizes.NaturalSizes.are_within.Goals as goal
use Rattle.pg_table.proofs.sizes.NaturalSizes.are_within.Goals.{then-within, else-within}

pub returns-in_err-natural-clause-fit : goal.returns-in_err-natural-clause-fit
returns-in_err-natural-clause-fit g c =
    let f : ℕ → ℕ = size_of g.R.Records.texts g.R.Records.columns c.args.self.now Columns in
    let n : ℕ = g.R.Records.columns c.args.self.now.records in
    let same = plain-naturals c.args.self.now.config.now (g.R.Records.texts c.args.self.now.records) n (plain-widths c.args.self.now.config.now (length (g.R.Records.texts c.args.self.now.records)) n c.requires.plain) in
    let inside : c.loop-column.column < n = omega (arith, c.loop-column-test.true, c.count-columns.ensures) in
    rw c.from_residual.ensures (ap all_fit (sym same) ∙ one-past f n c.loop-column.column inside (none-past (f c.loop-column.column) c.in_err-natural.ensures))

pub loop-column-preserved : goal.loop-column-preserved
loop-column-preserved g c =
    let f : ℕ → ℕ = size_of g.R.Records.texts g.R.Records.columns c.args.self.now Columns in
    let k = c.loop-column.column in
    let i = c.loop-column.invariant in
    let more = sum-more f k in
    let (is, small) = some-below (f k) c.in_ok-natural.natural c.in_ok-natural.ensures in
    let parts : c.if-within.within ≡ true → (c.loop-column.within ≡ true) × (c.in_ok-natural.natural ≤ c.min.result) = λ yes.
    elim c.if-within.branch [
      | then-within w ↦ (w.if-within.true, (let test = sym w.within-is ∙ yes in grind (arith, nat_tests, test)))
      | else-within w ↦ absurd (false≢true (sym w.if-within.false ∙ sym w.within-is ∙ yes))
    ]
    in
    let n : ℕ = g.R.Records.columns c.args.self.now.records in
    let same = plain-naturals c.args.self.now.config.now (g.R.Records.texts c.args.self.now.records) n (plain-widths c.args.self.now.config.now (length (g.R.Records.texts c.args.self.now.records)) n c.requires.plain) in
    let inside : k < n = omega (arith, c.loop-column-test.true, c.count-columns.ensures) in
    let fits : IsNarrow c.args.total c.args.limits.now c.args.self.now.config.now (g.R.Records.texts c.args.self.now.records) n → c.in_ok-natural.natural ≤ c.min.result = λ w.
    omega (
      arith,
      w.each k inside,
      w.line,
      ap (λ ws. slice_index ws k) same,
      size-at f n k inside,
      ap (λ ws. sum_by (λ j. slice_index ws j) (range_with_len 0 n)) same,
      sum-listed f n,
      sum-below f k n inside,
      is,
      i.left,
      ap (λ m. beside_columns c.args.self.now.config.now m) c.count-columns.ensures,
      c.limit_of.ensures,
      c.min.ensures,
    )
    in record {
      left = omega (arith, i.left, more, is);
      fit = λ j h. elim (cases_lt j k) [ inl before ↦ i.fit j before | inr past ↦ let e : j ≡ k = omega (arith, h, past) in omega (arith, ap f e, small) ];
      each = λ yes j h.
          let p = parts yes in
          elim (cases_lt j k) [
            | inl before ↦ i.each p.0 j before
            | inr past ↦ let e : j ≡ k = omega (arith, h, past) in omega (arith, p.1, is, ap f e, ap (λ n. limit_of c.args.limits.now n) e, c.limit_of.ensures, c.min.ensures)
          ];
      together = λ yes. let p = parts yes in omega (arith, i.together p.0, more, is, p.1, i.left, c.min.ensures);
      narrow = λ w.
          elim c.if-within.branch [
            | then-within w2 ↦ (let low = fits w in let test = w2.within-is in grind (arith, nat_tests, low, test))
            | else-within w2 ↦ absurd (false≢true (sym w2.if-within.false ∙ i.narrow w))
          ];
    }

pub returns-clause-fit : goal.returns-clause-fit
returns-clause-fit g c =
    let f : ℕ → ℕ = size_of g.R.Records.texts g.R.Records.columns c.args.self.now Columns in
    let n : ℕ = g.R.Records.columns c.args.self.now.records in
    let same = plain-naturals c.args.self.now.config.now (g.R.Records.texts c.args.self.now.records) n (plain-widths c.args.self.now.config.now (length (g.R.Records.texts c.args.self.now.records)) n c.requires.plain) in
    ap all_fit (sym same) ∙ all_fit-each f n (λ k h. c.loop-column.invariant.fit k (omega (arith, h, c.loop-column-test.false, c.count-columns.ensures)))

pub returns-clause-within : goal.returns-clause-within
returns-clause-within g c =
    let f : ℕ → ℕ = size_of g.R.Records.texts g.R.Records.columns c.args.self.now Columns in
    let n : ℕ = g.R.Records.columns c.args.self.now.records in
    let same = plain-naturals c.args.self.now.config.now (g.R.Records.texts c.args.self.now.records) n (plain-widths c.args.self.now.config.now (length (g.R.Records.texts c.args.self.now.records)) n c.requires.plain) in
    let all : c.loop-column.column ≡ n = omega (arith, c.loop-column-test.false, c.loop-column.auto.column-end, c.count-columns.ensures) in
    let room = ap (λ m. c.args.total - beside_columns c.args.self.now.config.now m) c.count-columns.ensures in
    on-true c.loop-column.within (AreWithin {R = g.row.R.Denot} {B = g.row.B.Denot} g.R.Records.texts g.R.Records.columns c.args.self.now c.args.total c.args.limits.now) (λ yes. record {
      each = λ k h. omega (arith, ap (λ ws. slice_index ws k) same, size-at f n k h, c.loop-column.invariant.each yes k (omega (arith, h, all)));
      together = omega (arith, ap (λ ws. sum_by (λ k. slice_index ws k) (range_with_len 0 n)) same, sum-listed f n, c.loop-column.invariant.together yes, room, ap (λ m. sum_by f (range_with_len 0 m)) all);
    })

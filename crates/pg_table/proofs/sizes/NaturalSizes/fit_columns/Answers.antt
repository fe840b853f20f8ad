use Rattle.std.proofs.Common.{◌≡◌, ℕ, ◌<◌, length, get_or, slice_index, ap, subst, ◌∙◌, arith}
use Rattle.std.proofs.lemmas.List.{get_or_read}
use Rattle.pg_fit.specs.Overlaid.{other_text}
use Rattle.pg_table.specs.Natural.{natural_sizes}
use Rattle.pg_table.specs.Fitted.{column_widths}
use Rattle.pg_table.specs.Inside.{AreFittedBelow}
use Rattle.pg_table.specs.declared.sizes.Axis.TheVariants.{Columns}
use Rattle.pg_table.proofs.FittedColumns.{length-naturals, length-widths}
use Rattle.pg_table.proofs.FittedPlaces.{one-fitted, one-wide}
use Rattle.pg_table.proofs.NaturalRoom.{plain-widths, plain-naturals}
use Rattle.pg_table.proofs.sizes.NaturalSizes.fit_columns.Goals as goal
use Rattle.pg_table.proofs.sizes.NaturalSizes.fit_columns.Goals.{then-width-index+in_ok-fit_column, else-width-index}

pub list-requires : goal.list-requires
list-requires g c =
    let self = c.args.self.now in
    let texts = g.R.Records.texts self.records in
    let columns : ℕ = g.R.Records.columns self.records in
    rw (plain-naturals self.config.now texts columns (plain-widths self.config.now (length texts) columns c.requires.plain)) c.requires.fit

pub widths-requires-clause-naturals : goal.widths-requires-clause-naturals
widths-requires-clause-naturals g c =
    let self = c.args.self.now in
    let texts = g.R.Records.texts self.records in
    let columns : ℕ = g.R.Records.columns self.records in
    c.deref.ensures.value ∙ c.in_ok-naturals.ensures ∙ plain-naturals self.config.now texts columns (plain-widths self.config.now (length texts) columns c.requires.plain)

pub index-requires : goal.index-requires
index-requires g c =
    let self = c.args.self.now in
    let texts = g.R.Records.texts self.records in
    let columns : ℕ = g.R.Records.columns self.records in
    let same = plain-naturals self.config.now texts columns (plain-widths self.config.now (length texts) columns c.requires.plain) in
    omega (arith, c.loop-column-test.true, c.deref-width-items.ensures.len, ap length c.deref-width-items.ensures.value, ap length c.in_ok-widths.ensures, length-widths c.args.within.now.how c.args.within.now.total c.args.within.now.limits.now self.config.now texts columns, ap length (c.in_ok-naturals.ensures ∙ same), length-naturals c.args.within.now.how c.args.within.now.total c.args.within.now.limits.now self.config.now texts columns, c.in_ok-naturals.naturals.ok)

pub fit_column-requires-clause-column : goal.fit_column-requires-clause-column
fit_column-requires-clause-column g c =
    let self = c.args.self.now in
    let texts = g.R.Records.texts self.records in
    let columns : ℕ = g.R.Records.columns self.records in
    omega (arith, c.loop-column-test.true, c.deref-width-items.ensures.len, ap length c.deref-width-items.ensures.value, ap length c.in_ok-widths.ensures, length-widths c.args.within.now.how c.args.within.now.total c.args.within.now.limits.now self.config.now texts columns)

pub loop-column-preserved : goal.loop-column-preserved
loop-column-preserved g c =
    let self = c.args.self.now in
    let texts = g.R.Records.texts self.records in
    let columns : ℕ = g.R.Records.columns self.records in
    let k = c.loop-column.column in
    let now = other_text c.loop-column.fitted.others texts in
    let inside : k < columns = omega (arith, c.loop-column-test.true, c.deref-width-items.ensures.len, ap length c.deref-width-items.ensures.value, ap length c.in_ok-widths.ensures, length-widths c.args.within.now.how c.args.within.now.total c.args.within.now.limits.now self.config.now texts columns) in
    let width-is : get_or c.deref-width-items.result.now k 0 ≡ slice_index (column_widths c.args.within.now.how c.args.within.now.total c.args.within.now.limits.now self.config.now texts columns) k =
    ap (λ ws. get_or ws k 0) (c.deref-width-items.ensures.value ∙ c.in_ok-widths.ensures) in
    let plain = plain-widths self.config.now (length texts) columns c.requires.plain in
    let naturals-are = c.in_ok-naturals.ensures ∙ plain-naturals self.config.now texts columns plain in
    let within : k < length c.in_ok-naturals.naturals.items = omega (arith, inside, ap length naturals-are, length-naturals c.args.within.now.how c.args.within.now.total c.args.within.now.limits.now self.config.now texts columns) in
    let natural-is : c.index.result.now ≡ slice_index (natural_sizes Columns self.config.now texts columns) k =
    get_or_read c.in_ok-naturals.naturals.items _ _ within c.index.ensures 0 ∙ ap (λ ws. get_or ws k 0) naturals-are in
    elim c.if-width-index.branch [
      | then-width-index+in_ok-fit_column w ↦
          rw w.fitted-is (
            w.in_ok-fit_column.ensures.records ∙ c.loop-column.invariant.0,
            one-fitted c.args.within.now.how c.args.within.now.total c.args.within.now.limits.now self.config.now texts columns k now _ inside c.loop-column.invariant.1 (rw width-is at w.in_ok-fit_column.ensures.fits),
          )
      | else-width-index w ↦
          rw w.fitted-is (
            c.loop-column.invariant.0,
            one-wide c.args.within.now.how c.args.within.now.total c.args.within.now.limits.now self.config.now texts columns plain k now inside c.loop-column.invariant.1 (omega (arith, w.if-width-index.false, width-is, natural-is)),
          )
    ]

pub returns-clause-fits : goal.returns-clause-fits
returns-clause-fits g c =
    let self = c.args.self.now in
    let texts = g.R.Records.texts self.records in
    let columns : ℕ = g.R.Records.columns self.records in
    let all : c.loop-column.column ≡ columns = omega (arith, c.loop-column-test.false, c.loop-column.auto.column-end, c.deref-width-items.ensures.len, ap length c.deref-width-items.ensures.value, ap length c.in_ok-widths.ensures, length-widths c.args.within.now.how c.args.within.now.total c.args.within.now.limits.now self.config.now texts columns) in
    subst (λ (n : ℕ). AreFittedBelow c.args.within.now.how c.args.within.now.total c.args.within.now.limits.now self.config.now texts columns n (other_text c.loop-column.fitted.others texts)) all c.loop-column.invariant.1

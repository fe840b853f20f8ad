use Rattle.std.proofs.Common.{◌++◌, refl, sym, ap, ◌∙◌, append-nil, string_bytes}
use Rattle.pg_picture.specs.Table.{Known}
use Rattle.pg_picture.proofs.Pictures.{picture-none}
use Rattle.pg_table.specs.Printing.{printed_table_of, natural_parts}
use Rattle.pg_table.proofs.Faults.{fault-empty, fault-none, prints-nothing}
use Rattle.pg_table.proofs.ToldTables.{misfit-none, straight, even}
use Rattle.pg_table.proofs.natural.NaturalTable.print.Goals as goal

pub push_sized-requires-clause-fits : goal.push_sized-requires-clause-fits
push_sized-requires-clause-fits g c =
    let self = c.args.self.now in
    let none = fault-none (printed_table_of g.R.Records.texts g.R.Records.columns g.C.Colors.color (natural_parts self)) (sym c.is_empty.ensures ∙ c.if-is_empty.false) (c.in_ok-dimension.ensures.ok refl) in
    misfit-none self.widths.now self.config.now (g.R.Records.texts self.records) (g.R.Records.columns self.records) (g.C.Colors.color self.colors.now) none.0 none.1

pub returns-then-is_empty-clause-prints : goal.returns-then-is_empty-clause-prints
returns-then-is_empty-clause-prints g c =
    prints-nothing (printed_table_of g.R.Records.texts g.R.Records.columns g.C.Colors.color (natural_parts c.args.self.now)) c.args.buf.now (sym c.is_empty.ensures ∙ c.if-is_empty.true)

pub returns-then-is_empty-clause-printed : goal.returns-then-is_empty-clause-printed
returns-then-is_empty-clause-printed g c =
    let none = picture-none Known (printed_table_of g.R.Records.texts g.R.Records.columns g.C.Colors.color (natural_parts c.args.self.now)) (sym c.is_empty.ensures ∙ c.if-is_empty.true) in
    sym (ap (λ t. string_bytes c.args.buf.now ++ t) none ∙ append-nil (string_bytes c.args.buf.now))

pub returns-then-is_empty-clause-straight : goal.returns-then-is_empty-clause-straight
returns-then-is_empty-clause-straight g c = λ ok.
    let self = c.args.self.now in
    straight self.widths.now self.config.now (g.R.Records.texts self.records) (g.R.Records.columns self.records) (g.C.Colors.color self.colors.now)
    (fault-empty (printed_table_of g.R.Records.texts g.R.Records.columns g.C.Colors.color (natural_parts self)) (sym c.is_empty.ensures ∙ c.if-is_empty.true))

pub returns-clause-straight : goal.returns-clause-straight
returns-clause-straight g c = λ ok.
    let self = c.args.self.now in
    straight self.widths.now self.config.now (g.R.Records.texts self.records) (g.R.Records.columns self.records) (g.C.Colors.color self.colors.now) (c.in_ok-dimension.ensures.ok refl)

pub returns-then-is_empty-clause-even : goal.returns-then-is_empty-clause-even
returns-then-is_empty-clause-even g c = λ ok.
    let self = c.args.self.now in
    even self.widths.now self.config.now (g.R.Records.texts self.records) (g.R.Records.columns self.records) (g.C.Colors.color self.colors.now)
    (fault-empty (printed_table_of g.R.Records.texts g.R.Records.columns g.C.Colors.color (natural_parts self)) (sym c.is_empty.ensures ∙ c.if-is_empty.true))

pub returns-clause-even : goal.returns-clause-even
returns-clause-even g c = λ ok.
    let self = c.args.self.now in
    even self.widths.now self.config.now (g.R.Records.texts self.records) (g.R.Records.columns self.records) (g.C.Colors.color self.colors.now) (c.in_ok-dimension.ensures.ok refl)

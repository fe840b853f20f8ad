use Rattle.std.proofs.Common.{List, arith}
use Rattle.pg_layout.specs.Text.{Text}
use Rattle.ruled_table.specs.Columns.{texts_of}
use Rattle.ruled_table.specs.Widths.{AreSpaced}
use Rattle.ruled_table.proofs.Tables.{feeds-counted, spaced-fault, spaced-widths}
use Rattle.ruled_table.proofs.widths.natural_sizes.Goals as goal

pub returns-in-Some-clause-widths : goal.returns-in-Some-clause-widths
returns-in-Some-clause-widths c =
    let texts : List (List Text) = texts_of c.args.records in
    let spaced : AreSpaced c.args.records c.in-Some.widths.items = rw c.in-Some.is at c.in_ok-found.ensures in
    spaced-widths c.args.config.now c.requires texts c.in-Some.widths.items spaced.columns (λ k h. spaced.each k (omega (arith, h, spaced.columns)))

pub returns-in-Some-clause-fault : goal.returns-in-Some-clause-fault
returns-in-Some-clause-fault c =
    let texts : List (List Text) = texts_of c.args.records in
    let spaced : AreSpaced c.args.records c.in-Some.widths.items = rw c.in-Some.is at c.in_ok-found.ensures in
    spaced-fault c.args.config.now c.requires texts (omega (arith, spaced.some, spaced.columns)) (λ k h. spaced.counted k (omega (arith, h, spaced.columns)))
    (λ r column h l. feeds-counted c.args.records.places.now c.args.records.records.now spaced.short r column)

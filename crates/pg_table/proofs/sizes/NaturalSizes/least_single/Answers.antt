use Rattle.std.proofs.Common.{◌≡◌, true, false, length, refl, sym, ap, ◌∙◌, Option, Some, None, is_some, is_none}
use Rattle.std.proofs.lemmas.Bool.{false≢true}
use Rattle.pg_config.specs.Spans.{Span}
use Rattle.pg_layout.specs.Records.{text_at}
use Rattle.pg_picture.proofs.OwnersOfPlaces.{InOrder}
use Rattle.pg_table.specs.Natural.{is_single}
use Rattle.pg_table.specs.Spanning.{least_cell_width}
use Rattle.pg_table.proofs.ListedSizes.{none-past, told-size}
use Rattle.pg_table.proofs.ShownCells.{hidden-single, shown-single}
use Rattle.pg_table.proofs.sizes.NaturalSizes.least_single.Goals as goal

some-other : (o : Option Span) → is_some o ≡ true → is_none o ≡ false
some-other None e = absurd (false≢true e)
some-other (Some s) e = refl

none-single : (o : Option Span) → is_some o ≡ false → is_none o ≡ true
none-single None e = refl
none-single (Some s) e = absurd (false≢true (sym e))

pub returns-then-not-is_cell_visible-clause-width : goal.returns-then-not-is_cell_visible-clause-width
returns-then-not-is_cell_visible-clause-width g c =
    let other = hidden-single c.args.self.now.config.now.spans c.args.pos (sym c.is_cell_visible.ensures ∙ c.if-not-is_cell_visible.true) in
    rw other refl

pub returns-then-is_some-clause-width : goal.returns-then-is_some-clause-width
returns-then-is_some-clause-width g c =
    let self = c.args.self.now in
    let order : InOrder self.config.now.spans (length (g.R.Records.texts self.records)) (g.R.Records.columns self.records) = record { ascending = c.spans-spans.ensures.ascending; fit = c.requires.fit } in
    let none : is_none c.left_span.result ≡ is_single self.config.now.spans c.args.pos = ap (λ (o : Option Span). is_none o) c.left_span.ensures
    ∙ shown-single self.config.now.spans (length (g.R.Records.texts self.records)) (g.R.Records.columns self.records) order c.args.pos (sym c.is_cell_visible.ensures ∙ c.if-not-is_cell_visible.false) in
    let other = sym none ∙ some-other c.left_span.result (sym c.is_some.ensures ∙ c.if-is_some.true) in
    rw other refl

pub returns-clause-width : goal.returns-clause-width
returns-clause-width g c =
    let self = c.args.self.now in
    let order : InOrder self.config.now.spans (length (g.R.Records.texts self.records)) (g.R.Records.columns self.records) = record { ascending = c.spans-spans.ensures.ascending; fit = c.requires.fit } in
    let none : is_none c.left_span.result ≡ is_single self.config.now.spans c.args.pos = ap (λ (o : Option Span). is_none o) c.left_span.ensures
    ∙ shown-single self.config.now.spans (length (g.R.Records.texts self.records)) (g.R.Records.columns self.records) order c.args.pos (sym c.is_cell_visible.ensures ∙ c.if-not-is_cell_visible.false) in
    let single = sym none ∙ none-single c.left_span.result (sym c.is_some.ensures ∙ c.if-is_some.false) in
    rw single (told-size c.least_cell.result _ c.least_cell.ensures)

pub returns-clause-huge : goal.returns-clause-huge
returns-clause-huge g c = λ none.
    let self = c.args.self.now in
    record {
      row = c.requires.row;
      column = c.requires.column;
      shown = sym c.is_cell_visible.ensures ∙ c.if-not-is_cell_visible.false;
      huge = none-past (least_cell_width c.args.how self.config.now (text_at (g.R.Records.texts self.records)) c.args.pos) (sym none ∙ c.least_cell.ensures);
    }

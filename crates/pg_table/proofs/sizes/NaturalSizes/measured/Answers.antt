use Rattle.std.proofs.Common.{◌≡◌, ◌==◌, ◌||◌, ℕ, Bool, false, List, [], length, drop, is_some, IfOk, IfSome, subst, sym, ap, ◌∙◌, arith}
use Rattle.std.specs.List.{list_all}
use Rattle.std.proofs.lemmas.Bool.Decides.{nat_tests}
use Rattle.std.proofs.lemmas.List.FromFn.{length-map-range_with_len}
use Rattle.pg_layout.specs.Records.{text_at}
use Rattle.pg_config.specs.Spans.{Span, corner}
use Rattle.pg_picture.proofs.OwnersOfPlaces.{InOrder}
use Rattle.pg_table.specs.Natural.{is_sized, all_fit, size_of_singles}
use Rattle.pg_table.specs.declared.sizes.Axis.TheVariants.{Columns, Rows}
use Rattle.pg_table.specs.Inside.{with_room}
use Rattle.pg_table.proofs.Faults.{fit-passes, no_spans}
use Rattle.pg_table.proofs.FitFaults.{kept-from}
use Rattle.pg_table.proofs.ListedSizes.{seam}
use Rattle.pg_table.proofs.ToldTables.{listed, plain-widths, raised-widths}
use Rattle.pg_table.proofs.NaturalRoom.{plain_sizes, widened_sizes}
use Rattle.pg_table.proofs.ShownCells.{cells-sized, corners-decide, huge-past, singles-sized}
use Rattle.pg_table.proofs.sizes.NaturalSizes.measured.Goals as goal

pub returns-then-is_empty-clause-widths : goal.returns-then-is_empty-clause-widths
returns-then-is_empty-clause-widths g c =
    let self = c.args.self.now in
    let none : self.config.now.spans ≡ [] = no_spans self.config.now.spans (ap (λ (xs : List Span). length xs == 0) (sym c.spans.ensures.all) ∙ sym c.is_empty.ensures ∙ c.if-is_empty.true) in
    let empty = ap (λ (xs : List Span). length xs == 0) (sym c.spans.ensures.all) ∙ sym c.is_empty.ensures ∙ c.if-is_empty.true in
    (rw c.in-Some.is at c.in_ok-singles.ensures.widths)
    ∙ plain_sizes Columns self.config.now (g.R.Records.texts self.records) (g.R.Records.columns self.records) none c.requires.rows
    ∙ sym (plain-widths c.args.least.now self.config.now (g.R.Records.texts self.records) (g.R.Records.columns self.records) (fit-passes _ _ empty))

pub returns-then-is_empty-clause-heights : goal.returns-then-is_empty-clause-heights
returns-then-is_empty-clause-heights g c =
    let self = c.args.self.now in
    let none : self.config.now.spans ≡ [] = no_spans self.config.now.spans (ap (λ (xs : List Span). length xs == 0) (sym c.spans.ensures.all) ∙ sym c.is_empty.ensures ∙ c.if-is_empty.true) in
    (rw c.in-Some.is at c.in_ok-singles.ensures.heights) ∙ plain_sizes Rows self.config.now (g.R.Records.texts self.records) (g.R.Records.columns self.records) none c.requires.columns

pub returns-then-is_empty-clause-sized : goal.returns-then-is_empty-clause-sized
returns-then-is_empty-clause-sized g c =
    let self = c.args.self.now in
    let texts = g.R.Records.texts self.records in
    let columns : ℕ = g.R.Records.columns self.records in
    let none : self.config.now.spans ≡ [] = no_spans self.config.now.spans (ap (λ (xs : List Span). length xs == 0) (sym c.spans.ensures.all) ∙ sym c.is_empty.ensures ∙ c.if-is_empty.true) in
    let wide = ap (λ xs. all_fit xs) (sym (rw c.in-Some.is at c.in_ok-singles.ensures.widths)) ∙ c.both_are_numbers.ensures.widths in
    let high = ap (λ xs. all_fit xs) (sym (rw c.in-Some.is at c.in_ok-singles.ensures.heights)) ∙ c.both_are_numbers.ensures.heights in
    sym (cells-sized self.config.now (text_at texts) (length texts) columns (singles-sized self.config.now (text_at texts) (length texts) columns wide high)
    (ap (λ spans. list_all (λ s. is_sized self.config.now (text_at texts) (corner s)) spans) none))

pub with_spans-requires-clause-widths : goal.with_spans-requires-clause-widths
with_spans-requires-clause-widths g c =
    let self = c.args.self.now in
    let texts = g.R.Records.texts self.records in
    let columns : ℕ = g.R.Records.columns self.records in
    let wide = rw c.in-Some.is at c.in_ok-singles.ensures.widths in
    let new : List ℕ = c.raise.new.sizes in
    let long : length new ≡ c.in-Some.singles.0.len = omega (arith, c.raise.ensures.same, c.deref_mut.ensures.len) in
    ap length (seam new (drop (length new) c.in-Some.singles.0.items) c.in-Some.singles.0.len long)
    ∙ c.raise.ensures.same
    ∙ ap length (c.deref_mut.ensures.value ∙ wide)
    ∙ length-map-range_with_len (size_of_singles Columns self.config.now (text_at texts) (length texts)) 0 columns

pub with_spans-requires-clause-heights : goal.with_spans-requires-clause-heights
with_spans-requires-clause-heights g c =
    let self = c.args.self.now in
    let texts = g.R.Records.texts self.records in
    let columns : ℕ = g.R.Records.columns self.records in
    ap length (rw c.in-Some.is at c.in_ok-singles.ensures.heights) ∙ length-map-range_with_len (size_of_singles Rows self.config.now (text_at texts) columns) 0 (length texts)

pub returns-else-is_empty-clause-widths : goal.returns-else-is_empty-clause-widths
returns-else-is_empty-clause-widths g c =
    let self = c.args.self.now in
    let texts = g.R.Records.texts self.records in
    let columns : ℕ = g.R.Records.columns self.records in
    let new : List ℕ = c.raise.new.sizes in
    let old : List ℕ = c.deref_mut.result.now in
    let long : length new ≡ c.in-Some.singles.0.len = omega (arith, c.raise.ensures.same, c.deref_mut.ensures.len) in
    let cells : ((length texts == 0) || (columns == 0)) ≡ false = grind (arith, nat_tests, c.requires.rows, c.requires.columns) in
    let spanned = ap (λ (xs : List Span). length xs == 0) (sym c.spans.ensures.all) ∙ sym c.is_empty.ensures ∙ c.if-is_empty.false in
    let kept = kept-from ((length texts == 0) || (columns == 0)) (length self.config.now.spans == 0) cells spanned in
    subst (λ (xs : List ℕ). IfOk c.with_spans.result (λ o. IfSome o (λ d. d.0.items ≡ xs)))
    (ap (λ (xs : List ℕ). with_room Columns self.config.now texts columns xs) (seam new (drop (length new) c.in-Some.singles.0.items) c.in-Some.singles.0.len long)
    ∙ raised-widths c.args.least.now self.config.now texts columns c.requires.fit old new (c.deref_mut.ensures.value ∙ (rw c.in-Some.is at c.in_ok-singles.ensures.widths)) c.raise.ensures.same c.raise.ensures.raised
    ∙ sym (listed c.args.least.now self.config.now texts columns kept c.requires.fit))
    c.with_spans.ensures.widths

pub returns-else-is_empty-clause-heights : goal.returns-else-is_empty-clause-heights
returns-else-is_empty-clause-heights g c =
    let self = c.args.self.now in
    subst (λ (xs : List ℕ). IfOk c.with_spans.result (λ o. IfSome o (λ d. d.1.items ≡ xs)))
    (widened_sizes Rows self.config.now (g.R.Records.texts self.records) (g.R.Records.columns self.records) c.requires.fit c.requires.columns _ (rw c.in-Some.is at c.in_ok-singles.ensures.heights))
    c.with_spans.ensures.heights

pub returns-else-is_empty-clause-sized : goal.returns-else-is_empty-clause-sized
returns-else-is_empty-clause-sized g c =
    let self = c.args.self.now in
    let texts = g.R.Records.texts self.records in
    let columns : ℕ = g.R.Records.columns self.records in
    let order : InOrder self.config.now.spans (length texts) columns = record { ascending = c.spans.ensures.ascending; fit = c.requires.fit } in
    let wide = ap (λ xs. all_fit xs) (sym (rw c.in-Some.is at c.in_ok-singles.ensures.widths)) ∙ c.both_are_numbers.ensures.widths in
    let high = ap (λ xs. all_fit xs) (sym (rw c.in-Some.is at c.in_ok-singles.ensures.heights)) ∙ c.both_are_numbers.ensures.heights in
    subst (λ (b : Bool). IfOk c.with_spans.result (λ o. is_some o ≡ b))
    (corners-decide self.config.now (text_at texts) (length texts) columns order (singles-sized self.config.now (text_at texts) (length texts) columns wide high))
    c.with_spans.ensures.sized

pub returns-in-None-clause-sized : goal.returns-in-None-clause-sized
returns-in-None-clause-sized g c =
    let self = c.args.self.now in
    let texts = g.R.Records.texts self.records in
    sym (huge-past self.config.now (text_at texts) (length texts) (g.R.Records.columns self.records) (c.in_ok-singles.ensures.huge c.in-None.is))

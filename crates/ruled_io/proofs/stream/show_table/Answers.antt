use Rattle.std.proofs.Common.{◌≡◌, ◌∙◌, ◌<◌, [], ℕ, List, None, Some, Option, Err, length, map, take, refl, sym, ap, subst, arith}
use Rattle.std.specs.Prelude.{option_map}
use Rattle.std.specs.Option.{option_or}
use Rattle.std.proofs.lemmas.Bool.{eqb-true}
use Rattle.std.proofs.lemmas.List.{length-map}
use Rattle.csv.specs.Records.{fields_of}
use Rattle.pg_layout.specs.Text.{Text}
use Rattle.pg_layout.specs.Colors.{Color}
use Rattle.pg_layout.specs.declared.position.Position.{Position}
use Rattle.ruled_table.specs.RowLines.{HasAppended}
use Rattle.ruled_table.specs.Layouts.{plan_in, with_colors, colored, first_fault, layout_fault, layout_of, start_fault}
use Rattle.ruled_table.specs.declared.view.ViewFault.{ViewFault}
use Rattle.ruled_io.specs.Faults.{of_view}
use Rattle.ruled_io.specs.declared.fault.RunFault.TheVariants.{Input}
use Rattle.ruled_io.specs.declared.program.Remarks.{Remarks}
use Rattle.ruled_io.specs.Reading.{GoesTo, StandsIn}
use Rattle.ruled_io.specs.Stream.{wrong_within}
use Rattle.ruled_io.proofs.Tables.{goes-to}
use Rattle.ruled_io.proofs.Shows.{noted-with, told-with, above-none, first-rows, judged, no-rows, none-ends, open-rows, refused-ends, short-rows, some-rows, table-ends, wrong-ends}
use Rattle.ruled_io.proofs.stream.show_table.Goals as goal

pub returns-then-is_empty-clause-ends : goal.returns-then-is_empty-clause-ends
returns-then-is_empty-clause-ends g c = λ origin some enough stands.
    let given : List (List Text) = map fields_of c.args.rows.items in
    let left = g.R.Read.remaining c.args.pieces.now.input in
    let (sound, wrong, held, goes) = goes-to origin left given c.args.reading stands in
    let long : length given ≡ length c.args.rows.items = length-map c.args.rows.items fields_of in
    let count : c.len.result ≡ length given = omega (arith, c.len.ensures, c.args.rows.ok, long) in
    let zero : length given ≡ 0 = omega (arith, eqb-true _ 0 (sym c.is_empty.ensures ∙ c.if-is_empty.true), c.args.rows.ok, long) in
    let clean : wrong_within c.args.count (length given) c.args.reading ≡ None = ap (λ (n : ℕ). wrong_within c.args.count n c.args.reading) (sym count) ∙ sym c.wrong_within.ensures ∙ c.in_default.is in
    (sound, wrong, held, none-ends c.args.options.now c.args.count sound wrong (g.W.Write.contents c.args.out.now.writer) (no-rows c.args.count sound wrong given c.args.reading some zero enough goes clean))

pub returns-in-Some-clause-ends : goal.returns-in-Some-clause-ends
returns-in-Some-clause-ends g c = λ origin some enough stands.
    let given : List (List Text) = map fields_of c.args.rows.items in
    let left = g.R.Read.remaining c.args.pieces.now.input in
    let (sound, wrong, held, goes) = goes-to origin left given c.args.reading stands in
    let long : length given ≡ length c.args.rows.items = length-map c.args.rows.items fields_of in
    let count : c.len.result ≡ length given = omega (arith, c.len.ensures, c.args.rows.ok, long) in
    let bad : wrong_within c.args.count (length given) c.args.reading ≡ Some c.in-Some.fault = ap (λ (n : ℕ). wrong_within c.args.count n c.args.reading) (sym count) ∙ sym c.wrong_within.ensures ∙ c.in-Some.is in
    let ends = wrong-ends c.args.options.now c.args.count sound wrong (g.W.Write.contents c.args.out.now.writer) c.in-Some.fault (Err (Input c.in-Some.fault)) refl
    (short-rows c.args.count sound wrong given c.args.reading c.in-Some.fault goes bad) in
    (sound, wrong, held, ends)

pub returns-in_err-layout-clause-ends : goal.returns-in_err-layout-clause-ends
returns-in_err-layout-clause-ends g c = λ origin some enough stands.
    let given : List (List Text) = map fields_of c.args.rows.items in
    let options = c.args.options.now in
    let left = g.R.Read.remaining c.args.pieces.now.input in
    let (sound, wrong, held, goes) = goes-to origin left given c.args.reading stands in
    let long : length given ≡ length c.args.rows.items = length-map c.args.rows.items fields_of in
    let count : c.len.result ≡ length given = omega (arith, c.len.ensures, c.args.rows.ok, long) in
    let above : 0 < length given = omega (arith, above-none _ (sym c.is_empty.ensures ∙ c.if-is_empty.false), c.args.rows.ok, long) in
    let clean : wrong_within c.args.count (length given) c.args.reading ≡ None = ap (λ (n : ℕ). wrong_within c.args.count n c.args.reading) (sym count) ∙ sym c.wrong_within.ensures ∙ c.in_default.is in
    let first : take c.args.count given ≡ take c.args.count sound = first-rows c.args.count sound wrong given c.args.reading enough goes in
    let ends = refused-ends options c.args.count sound wrong (g.W.Write.contents c.args.out.now.writer) c.in_err-layout.field-0.0 (first_fault options (take c.args.count sound)) c.from_residual.result c.from_residual.ensures.1
    (judged options c.args.count sound wrong (open-rows c.args.count sound wrong given c.args.reading enough goes clean) (some-rows c.args.count sound wrong given c.args.reading above goes))
    (λ kept. ap (λ (w : Option ViewFault). option_or w (start_fault (layout_of options (take c.args.count sound)))) (ap (layout_fault options) (sym first) ∙ c.in_err-layout.ensures.fault kept)) in
    (sound, wrong, held, ends)

pub returns-in_err-table-clause-ends : goal.returns-in_err-table-clause-ends
returns-in_err-table-clause-ends g c = λ origin some enough stands.
    let given : List (List Text) = map fields_of c.args.rows.items in
    let options = c.args.options.now in
    let left = g.R.Read.remaining c.args.pieces.now.input in
    let (sound, wrong, held, goes) = goes-to origin left given c.args.reading stands in
    let long : length given ≡ length c.args.rows.items = length-map c.args.rows.items fields_of in
    let count : c.len.result ≡ length given = omega (arith, c.len.ensures, c.args.rows.ok, long) in
    let above : 0 < length given = omega (arith, above-none _ (sym c.is_empty.ensures ∙ c.if-is_empty.false), c.args.rows.ok, long) in
    let clean : wrong_within c.args.count (length given) c.args.reading ≡ None = ap (λ (n : ℕ). wrong_within c.args.count n c.args.reading) (sym count) ∙ sym c.wrong_within.ensures ∙ c.in_default.is in
    let first : take c.args.count given ≡ take c.args.count sound = first-rows c.args.count sound wrong given c.args.reading enough goes in
    let laid : plan_in c.in_ok-layout.layout ≡ layout_of options (take c.args.count sound) = c.in_ok-layout.ensures.layout ∙ ap (layout_of options) first in
    let fine : layout_fault options (take c.args.count sound) ≡ None = ap (layout_fault options) (sym first) ∙ c.in_ok-layout.ensures.fault in
    let ends = refused-ends options c.args.count sound wrong (g.W.Write.contents c.args.out.now.writer) c.in_err-table.field-0.0 (first_fault options (take c.args.count sound)) c.from_residual-in_err-table.result c.from_residual-in_err-table.ensures.1
    (judged options c.args.count sound wrong (open-rows c.args.count sound wrong given c.args.reading enough goes clean) (some-rows c.args.count sound wrong given c.args.reading above goes))
    (λ kept. ap (λ (w : Option ViewFault). option_or w (start_fault (layout_of options (take c.args.count sound)))) fine ∙ ap start_fault (sym laid) ∙ c.in_err-table.ensures.fault kept) in
    (sound, wrong, held, ends)

pub returns-clause-ends : goal.returns-clause-ends
returns-clause-ends g c = λ origin some enough stands.
    let given : List (List Text) = map fields_of c.args.rows.items in
    let options = c.args.options.now in
    let left = g.R.Read.remaining c.args.pieces.now.input in
    let layout = plan_in c.in_ok-layout.layout in
    let (sound, wrong, held, kept, ends) = c.write_table-answer.ensures.ends options (colored options [] layout) origin []
    (subst (λ (rows : List (List Text)). StandsIn origin left rows c.args.reading) (sym c.in_ok-layout.ensures.rows) stands)
    (subst (λ (color : Position → Option Color). HasAppended options (with_colors color layout) [] c.in_ok-table.table) c.new-colors.ensures c.in_ok-table.ensures.begun) in
    let goes = subst (λ (rows : List (List Text)). GoesTo rows c.args.reading sound wrong) c.in_ok-layout.ensures.rows kept in
    let long : length given ≡ length c.args.rows.items = length-map c.args.rows.items fields_of in
    let count : c.len.result ≡ length given = omega (arith, c.len.ensures, c.args.rows.ok, long) in
    let above : 0 < length given = omega (arith, above-none _ (sym c.is_empty.ensures ∙ c.if-is_empty.false), c.args.rows.ok, long) in
    let clean : wrong_within c.args.count (length given) c.args.reading ≡ None = ap (λ (n : ℕ). wrong_within c.args.count n c.args.reading) (sym count) ∙ sym c.wrong_within.ensures ∙ c.in_default.is in
    let first : take c.args.count given ≡ take c.args.count sound = first-rows c.args.count sound wrong given c.args.reading enough goes in
    let laid : layout ≡ layout_of options (take c.args.count sound) = c.in_ok-layout.ensures.layout ∙ ap (layout_of options) first in
    let fine : layout_fault options (take c.args.count sound) ≡ None = ap (layout_fault options) (sym first) ∙ c.in_ok-layout.ensures.fault in
    let started : start_fault (layout_of options (take c.args.count sound)) ≡ None = ap start_fault (sym laid) ∙ c.in_ok-table.ensures.fault in
    let none : first_fault options (take c.args.count sound) ≡ None = ap (λ (w : Option ViewFault). option_or w (start_fault (layout_of options (take c.args.count sound)))) fine ∙ started in
    let there = some-rows c.args.count sound wrong given c.args.reading above goes in
    let whole = table-ends options c.args.count sound wrong layout (g.W.Write.contents c.args.out.now.writer) (g.W.Write.contents c.write_table-answer.new.out.writer) c.write_table-answer.result c.excess-wide.result c.and.result laid
    (judged options c.args.count sound wrong (open-rows c.args.count sound wrong given c.args.reading enough goes clean) there ∙ ap (option_map of_view) none) there ends c.excess-wide.ensures c.and.ensures in
    (sound, wrong, held, whole)

pub returns-clause-told : goal.returns-clause-told
returns-clause-told g c =
    let remarks : Remarks = record { padded = 0; wide = c.excess-wide.result; inner = None } in
    told-with _ _ c.write_table-answer.result remarks c.and.result c.and.ensures c.write_table-answer.ensures.told

pub returns-clause-noted : goal.returns-clause-noted
returns-clause-noted g c =
    let remarks : Remarks = record { padded = 0; wide = c.excess-wide.result; inner = None } in
    noted-with _ c.write_table-answer.result remarks c.and.result c.and.ensures c.write_table-answer.ensures.noted

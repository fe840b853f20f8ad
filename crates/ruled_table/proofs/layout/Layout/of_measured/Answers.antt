use Rattle.std.proofs.Common.{◌≡◌, ◌∙◌, [], ℕ, List, None, Option, length, map, string_bytes, sym, ap, ap₂, refl, subst, arith, rules}
use Rattle.std.specs.Prelude.{IfOk}
use Rattle.csv.specs.Records.{Row}
use Rattle.pg_layout.specs.Text.{Text}
use Rattle.ruled_table.specs.Columns.{ellipsis, texts_at}
use Rattle.ruled_table.specs.Tables.{Tells}
use Rattle.ruled_table.specs.Layouts.{plan_by, plan_fault, abridged, note_of, shown_columns, Plan, plan_in}
use Rattle.ruled_table.specs.declared.view.ViewFault.{ViewFault}
use Rattle.pg_table.specs.declared.numbers.Extent.{Extent}
use Rattle.ruled_table.proofs.LentTexts.{rows-abridged}
use Rattle.ruled_table.proofs.RowsInParts.{all-fault, all-laid, some-fault, some-laid}
use Rattle.ruled_table.proofs.layout.Layout.of_measured.Goals as goal

pub returns-then-shown-columns-clause-layout : goal.returns-then-shown-columns-clause-layout
returns-then-shown-columns-clause-layout c =
    let options = c.args.options.now in
    let places : List (Option ℕ) = c.args.places.items in
    let extents : List Extent = c.args.extents.items in
    let fields : List (List Text) = texts_at places c.args.rows.fields.now in
    let texts : List (List Text) = texts_at places c.args.rows.measured.now in
    let lent : c.deref.result.now ≡ places = search rules in
    let is : c.in_ok-shown.shown ≡ shown_columns options texts (length places) = rw lent at c.in_ok-shown.ensures in
    let none : string_bytes c.new-note.result ≡ [] = search rules in
    let laid : IfOk c.of_columns.result (λ layout. plan_in layout ≡ plan_by options extents places [] fields texts) = rw none at c.of_columns.ensures.layout in
    subst (λ (plan : Plan). IfOk c.of_columns.result (λ layout. plan_in layout ≡ plan)) (all-laid options places fields texts c.in_ok-shown.shown (length places) is refl (omega arith) extents) laid

pub returns-then-shown-columns-clause-fault : goal.returns-then-shown-columns-clause-fault
returns-then-shown-columns-clause-fault c =
    let options = c.args.options.now in
    let places : List (Option ℕ) = c.args.places.items in
    let fields : List (List Text) = texts_at places c.args.rows.fields.now in
    let texts : List (List Text) = texts_at places c.args.rows.measured.now in
    let lent : c.deref.result.now ≡ places = search rules in
    let is : c.in_ok-shown.shown ≡ shown_columns options texts (length places) = rw lent at c.in_ok-shown.ensures in
    subst (λ (fault : Option ViewFault). Tells fault c.of_columns.result) (all-fault options places fields texts c.in_ok-shown.shown (length places) is refl (omega arith)) c.of_columns.ensures.fault

pub returns-clause-layout : goal.returns-clause-layout
returns-clause-layout c =
    let options = c.args.options.now in
    let places : List (Option ℕ) = c.args.places.items in
    let extents : List Extent = c.args.extents.items in
    let own : List Row = c.args.rows.fields.now in
    let records : List Row = c.args.rows.measured.now in
    let fields : List (List Text) = texts_at places own in
    let texts : List (List Text) = texts_at places records in
    let shown : ℕ = c.in_ok-shown.shown in
    let columns : ℕ = c.len-columns.result in
    let lent : c.deref.result.now ≡ places = search rules in
    let is : shown ≡ shown_columns options texts (length places) = rw lent at c.in_ok-shown.ensures in
    let many : columns ≡ length places = omega (arith, c.len-columns.ensures, c.args.places.ok) in
    let asked : shown ≡ shown_columns options texts columns = is ∙ ap (shown_columns options texts) (sym many) in
    let drawn : List (Option ℕ) → Text → List (List Text) → List (List Text) → Plan = λ places note fields texts. plan_by options extents places note fields texts in
    let same : drawn c.abridge.new.places.items (string_bytes c.in_ok-note.note) (texts_at c.abridge.new.places.items own) (texts_at c.abridge.new.places.items records)
    ≡ drawn (abridged shown None places) (note_of columns shown) (map (abridged shown ellipsis) fields) (map (abridged shown ellipsis) texts) =
    ap₂ (λ (ps : List (Option ℕ)) (note : Text). drawn ps note (texts_at ps own) (texts_at ps records)) c.abridge.ensures c.in_ok-note.ensures
    ∙ ap₂ (drawn (abridged shown None places) (note_of columns shown)) (rows-abridged shown places own) (rows-abridged shown places records)
    in
    subst (λ (plan : Plan). IfOk c.of_columns-2.result (λ layout. plan_in layout ≡ plan)) (same ∙ some-laid options places fields texts shown columns asked many (omega arith) extents) c.of_columns-2.ensures.layout

pub returns-clause-fault : goal.returns-clause-fault
returns-clause-fault c =
    let options = c.args.options.now in
    let places : List (Option ℕ) = c.args.places.items in
    let own : List Row = c.args.rows.fields.now in
    let records : List Row = c.args.rows.measured.now in
    let fields : List (List Text) = texts_at places own in
    let texts : List (List Text) = texts_at places records in
    let shown : ℕ = c.in_ok-shown.shown in
    let columns : ℕ = c.len-columns.result in
    let lent : c.deref.result.now ≡ places = search rules in
    let is : shown ≡ shown_columns options texts (length places) = rw lent at c.in_ok-shown.ensures in
    let many : columns ≡ length places = omega (arith, c.len-columns.ensures, c.args.places.ok) in
    let asked : shown ≡ shown_columns options texts columns = is ∙ ap (shown_columns options texts) (sym many) in
    let same : plan_fault options (texts_at c.abridge.new.places.items own) (texts_at c.abridge.new.places.items records) ≡ plan_fault options (map (abridged shown ellipsis) fields) (map (abridged shown ellipsis) texts) =
    ap (λ (ps : List (Option ℕ)). plan_fault options (texts_at ps own) (texts_at ps records)) c.abridge.ensures
    ∙ ap₂ (plan_fault options) (rows-abridged shown places own) (rows-abridged shown places records)
    in
    subst (λ (fault : Option ViewFault). Tells fault c.of_columns-2.result) (same ∙ some-fault options places fields texts shown columns asked many (omega arith)) c.of_columns-2.ensures.fault

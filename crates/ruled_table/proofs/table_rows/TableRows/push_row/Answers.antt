use Rattle.std.proofs.Common.{◌≡◌, ◌∙◌, ◌<◌, List, length, string_bytes, sym, ap, arith, rules}
use Rattle.std.proofs.lemmas.Bool.Decides.{nat_tests}
use Rattle.csv.specs.Records.{fields_of}
use Rattle.pg_layout.specs.Text.{Text}
use Rattle.ruled_table.specs.Layouts.{Measures, Plan, plan_in}
use Rattle.ruled_table.specs.Sides.{pointed_fields}
use Rattle.pg_table.specs.declared.numbers.Extent.{Extent}
use Rattle.ruled_table.proofs.RowsInParts.{as-it-is, as-pointed}
use Rattle.ruled_table.proofs.table_rows.TableRows.push_row.Goals as goal

pub returns-then-is_empty-clause-lines : goal.returns-then-is_empty-clause-lines
returns-then-is_empty-clause-lines c = λ options plan rows appended.
    let inside : Measures = record {
      places = c.layout.inside.places.items;
      config = c.layout.inside.config;
      widths = c.layout.inside.widths.0.items;
      note = string_bytes c.layout.inside.note;
      extents = c.layout.inside.extents.items;
    } in
    let row : List Text = fields_of c.args.fields.now in
    let own : inside.extents ≡ plan.extents = ap (λ (p : Plan). p.extents) (ap plan_in c.layout.view_is ∙ appended.laid) in
    let none : length inside.extents ≡ 0 = grind (arith, nat_tests, c.is_empty.ensures, c.if-is_empty.true) in
    c.push_pointed.ensures.lines options plan rows row appended (as-it-is plan.extents row (sym (ap (λ (es : List Extent). length es) own) ∙ none))

pub returns-then-is_empty-clause-after : goal.returns-then-is_empty-clause-after
returns-then-is_empty-clause-after c = λ options plan rows appended.
    let inside : Measures = record {
      places = c.layout.inside.places.items;
      config = c.layout.inside.config;
      widths = c.layout.inside.widths.0.items;
      note = string_bytes c.layout.inside.note;
      extents = c.layout.inside.extents.items;
    } in
    let row : List Text = fields_of c.args.fields.now in
    let own : inside.extents ≡ plan.extents = ap (λ (p : Plan). p.extents) (ap plan_in c.layout.view_is ∙ appended.laid) in
    let none : length inside.extents ≡ 0 = grind (arith, nat_tests, c.is_empty.ensures, c.if-is_empty.true) in
    c.push_pointed.ensures.after options plan rows row appended (as-it-is plan.extents row (sym (ap (λ (es : List Extent). length es) own) ∙ none))

pub returns-then-is_empty-clause-room : goal.returns-then-is_empty-clause-room
returns-then-is_empty-clause-room c = λ options plan rows appended.
    let inside : Measures = record {
      places = c.layout.inside.places.items;
      config = c.layout.inside.config;
      widths = c.layout.inside.widths.0.items;
      note = string_bytes c.layout.inside.note;
      extents = c.layout.inside.extents.items;
    } in
    let row : List Text = fields_of c.args.fields.now in
    let own : inside.extents ≡ plan.extents = ap (λ (p : Plan). p.extents) (ap plan_in c.layout.view_is ∙ appended.laid) in
    let none : length inside.extents ≡ 0 = grind (arith, nat_tests, c.is_empty.ensures, c.if-is_empty.true) in
    c.push_pointed.ensures.room options plan rows row appended (as-it-is plan.extents row (sym (ap (λ (es : List Extent). length es) own) ∙ none))

pub returns-clause-lines : goal.returns-clause-lines
returns-clause-lines c = λ options plan rows appended.
    let inside : Measures = record {
      places = c.layout.inside.places.items;
      config = c.layout.inside.config;
      widths = c.layout.inside.widths.0.items;
      note = string_bytes c.layout.inside.note;
      extents = c.layout.inside.extents.items;
    } in
    let row : List Text = fields_of c.args.fields.now in
    let own : inside.extents ≡ plan.extents = ap (λ (p : Plan). p.extents) (ap plan_in c.layout.view_is ∙ appended.laid) in
    let some : 0 < length inside.extents = grind (arith, nat_tests, c.is_empty.ensures, c.if-is_empty.false) in
    let also : 0 < length plan.extents = omega (arith, some, ap (λ (es : List Extent). length es) own) in
    let told : c.deref.result.now ≡ inside.extents = search rules in
    let is = c.in_ok-pointed.ensures ∙ ap (λ (es : List Extent). pointed_fields es row) (told ∙ own) ∙ as-pointed plan.extents row also in
    c.push_pointed-2.ensures.lines options plan rows row appended is

pub returns-clause-after : goal.returns-clause-after
returns-clause-after c = λ options plan rows appended.
    let inside : Measures = record {
      places = c.layout.inside.places.items;
      config = c.layout.inside.config;
      widths = c.layout.inside.widths.0.items;
      note = string_bytes c.layout.inside.note;
      extents = c.layout.inside.extents.items;
    } in
    let row : List Text = fields_of c.args.fields.now in
    let own : inside.extents ≡ plan.extents = ap (λ (p : Plan). p.extents) (ap plan_in c.layout.view_is ∙ appended.laid) in
    let some : 0 < length inside.extents = grind (arith, nat_tests, c.is_empty.ensures, c.if-is_empty.false) in
    let also : 0 < length plan.extents = omega (arith, some, ap (λ (es : List Extent). length es) own) in
    let told : c.deref.result.now ≡ inside.extents = search rules in
    let is = c.in_ok-pointed.ensures ∙ ap (λ (es : List Extent). pointed_fields es row) (told ∙ own) ∙ as-pointed plan.extents row also in
    c.push_pointed-2.ensures.after options plan rows row appended is

pub returns-clause-room : goal.returns-clause-room
returns-clause-room c = λ options plan rows appended.
    let inside : Measures = record {
      places = c.layout.inside.places.items;
      config = c.layout.inside.config;
      widths = c.layout.inside.widths.0.items;
      note = string_bytes c.layout.inside.note;
      extents = c.layout.inside.extents.items;
    } in
    let row : List Text = fields_of c.args.fields.now in
    let own : inside.extents ≡ plan.extents = ap (λ (p : Plan). p.extents) (ap plan_in c.layout.view_is ∙ appended.laid) in
    let some : 0 < length inside.extents = grind (arith, nat_tests, c.is_empty.ensures, c.if-is_empty.false) in
    let also : 0 < length plan.extents = omega (arith, some, ap (λ (es : List Extent). length es) own) in
    let told : c.deref.result.now ≡ inside.extents = search rules in
    let is = c.in_ok-pointed.ensures ∙ ap (λ (es : List Extent). pointed_fields es row) (told ∙ own) ∙ as-pointed plan.extents row also in
    c.push_pointed-2.ensures.room options plan rows row appended is

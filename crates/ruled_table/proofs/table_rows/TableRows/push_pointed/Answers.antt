use Rattle.std.proofs.Common.{◌≡◌, ◌∙◌, List, None, ◌∷◌, ◌++◌, [], ap, length, map, string_bytes, subst, take, rules}
use Rattle.std.specs.Borrow.{Bor}
use Rattle.std.specs.Cow.{cow_str_bytes}
use Rattle.std.specs.Prelude.{OnOk}
use Rattle.std.proofs.lemmas.Result.{on_ok_weaker}
use Rattle.csv.specs.Records.{fields_of}
use Rattle.pg_layout.specs.Text.{Text}
use Rattle.ruled_table.specs.RowLines.{HasDrawn, GrowsTo, HasNoRoomBelow, TellsRoom, begun_of}
use Rattle.ruled_table.specs.Layouts.{cells_of, Measures, Plan, plan_in, with_colors}
use Rattle.ruled_table.specs.Shown.{shown_row}
use Rattle.ruled_table.specs.Widths.{row_within}
use Rattle.ruled_table.specs.declared.options.Options.{Options}
use Rattle.ruled_table.proofs.LentTexts.{cells-own}
use Rattle.ruled_table.proofs.RowsInParts.{cells-next}
use Rattle.ruled_table.proofs.table_rows.TableRows.push_pointed.Goals as goal

pub returns-then-fill_lent-clause-lines : goal.returns-then-fill_lent-clause-lines
returns-then-fill_lent-clause-lines c = λ options plan rows row appended pointed.
    let asked : Options = c.args.self.now.options.now in
    let inside : Measures = record { places = c.layout.inside.places.items; config = c.layout.inside.config; widths = c.layout.inside.widths.0.items; note = string_bytes c.layout.inside.note; extents = c.layout.inside.extents.items } in
    let fields : List Text = fields_of c.args.fields.now in
    let cells : List Text = map (λ (cell : Bor Text). cell.now) (take c.len.result c.fill_lent.new.cells) in
    let lent : c.deref.result.now ≡ inside.places = search rules in
    let many : c.len.result ≡ length inside.places = search rules in
    let made : cells ≡ row_within asked.bounds.overflow (plan_in inside).width (shown_row asked inside.places fields) = rw many (rw lent at (c.fill_lent.ensures.cells (search rules))) in
    let is = cells-next options asked (with_colors (λ place. None) plan) (plan_in inside) rows row fields cells appended.asked (ap plan_in c.layout.view_is ∙ appended.laid) pointed made in
    subst (λ (all : List (List Text)). OnOk c.push_lent.result (GrowsTo (begun_of plan (cells_of options plan rows)) (begun_of plan all) (string_bytes c.args.buf.now) (string_bytes c.push_lent.new.buf))) is
    (c.push_lent.ensures.lines plan (cells_of options plan rows) appended.drawn)

pub returns-then-fill_lent-clause-after : goal.returns-then-fill_lent-clause-after
returns-then-fill_lent-clause-after c = λ options plan rows row appended pointed.
    let asked : Options = c.args.self.now.options.now in
    let inside : Measures = record { places = c.layout.inside.places.items; config = c.layout.inside.config; widths = c.layout.inside.widths.0.items; note = string_bytes c.layout.inside.note; extents = c.layout.inside.extents.items } in
    let fields : List Text = fields_of c.args.fields.now in
    let cells : List Text = map (λ (cell : Bor Text). cell.now) (take c.len.result c.fill_lent.new.cells) in
    let lent : c.deref.result.now ≡ inside.places = search rules in
    let many : c.len.result ≡ length inside.places = search rules in
    let made : cells ≡ row_within asked.bounds.overflow (plan_in inside).width (shown_row asked inside.places fields) = rw many (rw lent at (c.fill_lent.ensures.cells (search rules))) in
    let is = cells-next options asked (with_colors (λ place. None) plan) (plan_in inside) rows row fields cells appended.asked (ap plan_in c.layout.view_is ∙ appended.laid) pointed made in
    on_ok_weaker c.push_lent.result
    (λ (drawn : HasDrawn plan (cells_of options plan rows ++ cells ∷ []) c.push_lent.new.self). record { asked = appended.asked; laid = appended.laid; drawn = subst (λ (all : List (List Text)). HasDrawn plan all c.push_lent.new.self) is drawn })
    (c.push_lent.ensures.after plan (cells_of options plan rows) appended.drawn)

pub returns-then-fill_lent-clause-room : goal.returns-then-fill_lent-clause-room
returns-then-fill_lent-clause-room c = λ options plan rows row appended pointed.
    let asked : Options = c.args.self.now.options.now in
    let inside : Measures = record { places = c.layout.inside.places.items; config = c.layout.inside.config; widths = c.layout.inside.widths.0.items; note = string_bytes c.layout.inside.note; extents = c.layout.inside.extents.items } in
    let fields : List Text = fields_of c.args.fields.now in
    let cells : List Text = map (λ (cell : Bor Text). cell.now) (take c.len.result c.fill_lent.new.cells) in
    let lent : c.deref.result.now ≡ inside.places = search rules in
    let many : c.len.result ≡ length inside.places = search rules in
    let made : cells ≡ row_within asked.bounds.overflow (plan_in inside).width (shown_row asked inside.places fields) = rw many (rw lent at (c.fill_lent.ensures.cells (search rules))) in
    let own = cells-own options asked (with_colors (λ place. None) plan) (plan_in inside) row fields cells appended.asked (ap plan_in c.layout.view_is ∙ appended.laid) pointed made in
    subst (λ (xs : List Text). TellsRoom (HasNoRoomBelow plan (cells_of options plan rows) xs) c.push_lent.result) own (c.push_lent.ensures.room plan (cells_of options plan rows) appended.drawn)

pub returns-clause-lines : goal.returns-clause-lines
returns-clause-lines c = λ options plan rows row appended pointed.
    let asked : Options = c.args.self.now.options.now in
    let inside : Measures = record { places = c.layout.inside.places.items; config = c.layout.inside.config; widths = c.layout.inside.widths.0.items; note = string_bytes c.layout.inside.note; extents = c.layout.inside.extents.items } in
    let fields : List Text = fields_of c.args.fields.now in
    let cells : List Text = map cow_str_bytes c.in_ok-cells.cells.items in
    let lent : c.deref-2.result.now ≡ inside.places = search rules in
    let made : cells ≡ row_within asked.bounds.overflow (plan_in inside).width (shown_row asked inside.places fields) = rw lent at c.in_ok-cells.ensures in
    let is = cells-next options asked (with_colors (λ place. None) plan) (plan_in inside) rows row fields cells appended.asked (ap plan_in c.layout.view_is ∙ appended.laid) pointed made in
    subst (λ (all : List (List Text)). OnOk c.push.result (GrowsTo (begun_of plan (cells_of options plan rows)) (begun_of plan all) (string_bytes c.args.buf.now) (string_bytes c.push.new.buf))) is
    (c.push.ensures.lines plan (cells_of options plan rows) appended.drawn)

pub returns-clause-after : goal.returns-clause-after
returns-clause-after c = λ options plan rows row appended pointed.
    let asked : Options = c.args.self.now.options.now in
    let inside : Measures = record { places = c.layout.inside.places.items; config = c.layout.inside.config; widths = c.layout.inside.widths.0.items; note = string_bytes c.layout.inside.note; extents = c.layout.inside.extents.items } in
    let fields : List Text = fields_of c.args.fields.now in
    let cells : List Text = map cow_str_bytes c.in_ok-cells.cells.items in
    let lent : c.deref-2.result.now ≡ inside.places = search rules in
    let made : cells ≡ row_within asked.bounds.overflow (plan_in inside).width (shown_row asked inside.places fields) = rw lent at c.in_ok-cells.ensures in
    let is = cells-next options asked (with_colors (λ place. None) plan) (plan_in inside) rows row fields cells appended.asked (ap plan_in c.layout.view_is ∙ appended.laid) pointed made in
    on_ok_weaker c.push.result
    (λ (drawn : HasDrawn plan (cells_of options plan rows ++ cells ∷ []) c.push.new.self). record { asked = appended.asked; laid = appended.laid; drawn = subst (λ (all : List (List Text)). HasDrawn plan all c.push.new.self) is drawn })
    (c.push.ensures.after plan (cells_of options plan rows) appended.drawn)

pub returns-clause-room : goal.returns-clause-room
returns-clause-room c = λ options plan rows row appended pointed.
    let asked : Options = c.args.self.now.options.now in
    let inside : Measures = record { places = c.layout.inside.places.items; config = c.layout.inside.config; widths = c.layout.inside.widths.0.items; note = string_bytes c.layout.inside.note; extents = c.layout.inside.extents.items } in
    let fields : List Text = fields_of c.args.fields.now in
    let cells : List Text = map cow_str_bytes c.in_ok-cells.cells.items in
    let lent : c.deref-2.result.now ≡ inside.places = search rules in
    let made : cells ≡ row_within asked.bounds.overflow (plan_in inside).width (shown_row asked inside.places fields) = rw lent at c.in_ok-cells.ensures in
    let own = cells-own options asked (with_colors (λ place. None) plan) (plan_in inside) row fields cells appended.asked (ap plan_in c.layout.view_is ∙ appended.laid) pointed made in
    subst (λ (xs : List Text). TellsRoom (HasNoRoomBelow plan (cells_of options plan rows) xs) c.push.result) own (c.push.ensures.room plan (cells_of options plan rows) appended.drawn)

use Rattle.std.proofs.Common.{◌≡◌, Some, None, [], map, refl, sym, ap, ◌∙◌}
use Rattle.std.specs.Option.{option_map}
use Rattle.std.specs.Result.{result_err}
use Rattle.pg_layout.specs.Records.{columns_of, ragged_row}
use Rattle.pg_table.specs.OwnRows.{texts_of, transposed}
use Rattle.pg_table.specs.Printing.{ascii_config}
use Rattle.pg_table.specs.declared.fault.TableFault.TheVariants.{Ragged}
use Rattle.pg_table.proofs.Rearranged.{columns-even, map-map}
use Rattle.pg_table.proofs.Setters.{left}
use Rattle.pg_table.proofs.table.Table.transposed.Goals as goal

pub returns-clause-texts : goal.returns-clause-texts
returns-clause-texts g c =
    let self = c.args.self.now in
    let rows = ap (λ t. t.rows) c.self.view_is in
    let texts =
    map-map (λ row. map (λ text. text.now) row) (λ row. row.items) c.in_ok-rows.rows.items
    ∙ c.in_ok-rows.ensures
    ∙ ap (λ rows. transposed (map (λ row. map g.T.AsStr.text row) rows) (columns_of rows)) rows in
    left c.new.result (record { rows = map (λ row. row.items) c.in_ok-rows.rows.items; config = ascii_config; colors = [] }) (λ table. texts_of (λ text. text.now) table ≡ transposed (texts_of g.T.AsStr.text self) (columns_of self.rows)) texts c.new.ensures.parts

pub returns-clause-settings : goal.returns-clause-settings
returns-clause-settings g c = left c.new.result _ (λ table. (table.config ≡ ascii_config) × (table.colors ≡ [])) (refl, refl) c.new.ensures.parts

pub returns-clause-memory : goal.returns-clause-memory
returns-clause-memory g c = λ fault e.
    let self = c.args.self.now in
    let rows = ap (λ t. t.rows) c.self.view_is in
    let texts =
    map-map (λ row. map (λ text. text.now) row) (λ row. row.items) c.in_ok-rows.rows.items
    ∙ c.in_ok-rows.ensures
    ∙ ap (λ rows. transposed (map (λ row. map g.T.AsStr.text row) rows) (columns_of rows)) rows in
    let even = columns-even (λ text. text.now) (map (λ row. row.items) c.in_ok-rows.rows.items) (texts_of g.T.AsStr.text self) (columns_of self.rows) texts in
    let none = c.new.ensures.exact ∙ ap (λ o. option_map (λ row. Ragged row) o) even in
    absurd (let f : Some fault ≡ None = sym (ap (λ r. result_err r) e) ∙ none in cc)

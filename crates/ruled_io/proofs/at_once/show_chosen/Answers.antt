use Rattle.std.proofs.Common.{◌≡◌, ℕ, List, Option, None, map, ap, subst, true, rules}
use Rattle.csv.specs.Records.{fields_of}
use Rattle.pg_layout.specs.Text.{Text}
use Rattle.ruled_table.specs.View.{blocks_fault, blocks_text, all_excess, all_fault, all_text}
use Rattle.ruled_table.specs.Columns.{column_fault}
use Rattle.ruled_table.specs.Layouts.{is_always}
use Rattle.ruled_io.specs.Stream.{Draws}
use Rattle.ruled_io.proofs.Shows.{always-blocks, blocks-always, blocks-excess, draws-with, returned-with, same-draws, told-with}
use Rattle.ruled_io.proofs.at_once.show_chosen.Goals as goal

abbrev no-width : Option ℕ
no-width = None

pub returns-then-is_always-clause-draws : goal.returns-then-is_always-clause-draws
returns-then-is_always-clause-draws g c = λ named.
    let options = c.args.options.now in
    let rows : List (List Text) = map fields_of c.args.rows.items in
    let old = g.W.Write.contents c.args.out.now.writer in
    let new = g.W.Write.contents c.show_blocks.new.out.writer in
    let lent : map fields_of c.deref.result.now ≡ rows = ap (map fields_of) c.deref.ensures.value in
    let always : is_always options.vertical ≡ true = search rules in
    let (text, wrong) = always-blocks options rows always in
    let drawn : column_fault options.columns.items rows ≡ None → Draws (blocks_text options rows) (blocks_fault options rows) old new c.show_blocks.result =
    subst (λ (rs : List (List Text)). column_fault options.columns.items rs ≡ None → Draws (blocks_text options rs) (blocks_fault options rs) old new c.show_blocks.result) lent c.show_blocks.ensures.draws
    in
    draws-with (all_text options rows) (all_fault options rows) old new c.show_blocks.result no-width c.and.result c.and.ensures
    (same-draws (blocks_text options rows) (all_text options rows) (blocks_fault options rows) (all_fault options rows) old new c.show_blocks.result text wrong (drawn named))

pub returns-then-is_always-clause-told : goal.returns-then-is_always-clause-told
returns-then-is_always-clause-told g c = told-with _ _ c.show_blocks.result no-width c.and.result c.and.ensures c.show_blocks.ensures.told

pub returns-then-is_always-clause-wide : goal.returns-then-is_always-clause-wide
returns-then-is_always-clause-wide g c =
    let options = c.args.options.now in
    let rows : List (List Text) = map fields_of c.args.rows.items in
    let always : is_always options.vertical ≡ true = search rules in
    returned-with c.show_blocks.result no-width (all_excess options rows) c.and.result c.and.ensures (blocks-excess options rows (blocks-always options rows always))

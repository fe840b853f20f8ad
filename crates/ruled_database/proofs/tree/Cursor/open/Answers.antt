use Rattle.std.proofs.Common.{◌≡◌, ◌∙◌, ◌-◌, List, None, Some, ap, sym, subst, arith, rules}
use Rattle.ruled_database.specs.Listings.{LacksRow, rows_behind, steps_of_all}
use Rattle.ruled_database.specs.Trees.{page_of, Step, page_at, rows_below, sound_rows}
use Rattle.ruled_database.specs.declared.fault.TableFault.TheVariants.{Damage}
use Rattle.ruled_database.specs.declared.tree.Level.{Level}
use Rattle.ruled_database.proofs.Tabling.{lacks_row, no_left, no_level, no_page, one_page_less, pushed}
use Rattle.ruled_database.proofs.tree.Cursor.open.Goals as goal
use Rattle.ruled_database.proofs.tree.Cursor.open.Goals.{then-levels-eq0-via-then-levels-eq0, then-levels-eq0-via-else-levels-eq0+then-self-eq0}

pub returns-then-levels-eq0-clause-fault : goal.returns-then-levels-eq0-clause-fault
returns-then-levels-eq0-clause-fault c =
    let s = c.args.self.now in
    let behind = steps_of_all s.file.bytes.now s.tree s.levels.items in
    elim c.then-levels-eq0.branch [
      | then-levels-eq0-via-then-levels-eq0 w ↦ no_level s.file.bytes.now s.tree c.args.levels c.args.number s.left behind w.if-levels-eq0.true
      | then-levels-eq0-via-else-levels-eq0+then-self-eq0 w ↦ no_left s.file.bytes.now s.tree c.args.levels c.args.number s.left behind w.if-self-eq0.true
    ]

pub returns-in_err-node-clause-fault : goal.returns-in_err-node-clause-fault
returns-in_err-node-clause-fault c =
    let s = c.args.self.now in
    let behind = steps_of_all s.file.bytes.now s.tree s.levels.items in
    let rows = rows_behind (rows_below s.file.bytes.now s.tree c.args.levels c.args.number) s in
    let none : page_at s.file.bytes.now s.tree c.args.number ≡ None = search rules in
    let damage : c.in_err-node.field-0.0 ≡ Damage = search rules in
    lacks_row rows c.from_residual.result c.in_err-node.field-0.0 c.from_residual.ensures.1
    (subst (LacksRow rows) (sym damage) (no_page s.file.bytes.now s.tree c.args.levels c.args.number s.left behind none))

pub returns-clause-rows : goal.returns-clause-rows
returns-clause-rows c =
    let s = c.args.self.now in
    let file = s.file.bytes.now in
    let behind = steps_of_all file s.tree s.levels.items in
    let level : Level = record { node = c.in_ok-node.node; below = c.args.levels - 1; place = 0; row = None } in
    let found : page_at file s.tree c.args.number ≡ Some (page_of c.in_ok-node.node) = search rules in
    one_page_less file s.tree c.args.levels (c.args.levels - 1) c.args.number s.left (s.left - 1) (page_of c.in_ok-node.node) behind (omega arith) (omega arith) found
    ∙ sym (ap (λ (steps : List Step). sound_rows (s.left - 1) steps) (pushed file s.tree s.levels.items c.push.new.self.items level c.in_ok-push.ensures.items))

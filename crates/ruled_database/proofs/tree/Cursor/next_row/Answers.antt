use Rattle.std.proofs.Common.{◌≡◌, ◌∙◌, ◌++◌, [], List, None, Option, Some, ap, sym, subst, rules}
use Rattle.std.specs.Prelude.{Bool}
use Rattle.ruled_database.specs.Listings.{LacksRow, row_step, rows_behind, steps_of_all, with_row}
use Rattle.ruled_database.specs.Trees.{page_of, Stored, Step, rows_below, rows_from, sound_rows}
use Rattle.ruled_database.specs.declared.tree.Level.{Level}
use Rattle.ruled_database.specs.declared.tree.StoredRow.{StoredRow}
use Rattle.ruled_database.proofs.Tabling.{lacks_row, pushed, row_first}
use Rattle.ruled_database.proofs.tree.Cursor.next_row.Goals as goal

pub returns-in-Some-row-clause-rows : goal.returns-in-Some-row-clause-rows
returns-in-Some-row-clause-rows c =
    let s = c.loop-level.self in
    let file = s.file.bytes.now in
    let level = c.in-Some.level in
    let row = c.in-Some-row.row in
    let behind = steps_of_all file s.tree c.pop.new.self.items in
    let later = rows_from (rows_below file s.tree level.below) (page_of level.node) level.place in
    let next : Level = record { node = level.node; below = level.below; place = level.place; row = None } in
    let is : level.row ≡ Some row = search rules in
    c.loop-level.invariant.rows
    ∙ ap (λ (steps : List Step). sound_rows s.left steps) (pushed file s.tree c.pop.new.self.items s.levels.items level c.in-Some.ensures.items)
    ∙ ap (λ (first : Option StoredRow). sound_rows s.left ((row_step first ++ later) ++ behind)) is
    ∙ row_first s.left (Some row) later behind
    ∙ ap (λ (steps : List Step). with_row (Some row) (sound_rows s.left steps)) (sym (pushed file s.tree c.pop.new.self.items c.push.new.self.items next c.in_ok-push.ensures.items))

pub returns-in_err-row-clause-fault : goal.returns-in_err-row-clause-fault
returns-in_err-row-clause-fault c =
    let s = c.loop-level.self in
    let same = c.loop-level.invariant.rows ∙ ap (λ (steps : List Step). sound_rows s.left steps) (pushed s.file.bytes.now s.tree c.pop.new.self.items s.levels.items c.in-Some.level c.in-Some.ensures.items) in
    lacks_row (rows_behind [] c.args.self.now) c.from_residual-in_err-row.result c.in_err-row.field-0.0 c.from_residual-in_err-row.ensures.1
    (subst (λ (rows : List Stored × Bool). LacksRow rows c.in_err-row.field-0.0) (sym same) c.in_err-row.ensures.fault)

pub returns-in-Some-2-clause-rows : goal.returns-in-Some-2-clause-rows
returns-in-Some-2-clause-rows c =
    let s = c.loop-level.self in
    let is : c.in_ok-row.field-0 ≡ Some c.in-Some-2.row = search rules in
    c.loop-level.invariant.rows
    ∙ ap (λ (steps : List Step). sound_rows s.left steps) (pushed s.file.bytes.now s.tree c.pop.new.self.items s.levels.items c.in-Some.level c.in-Some.ensures.items)
    ∙ c.in_ok-row.ensures.rows
    ∙ ap (λ (row : Option StoredRow). with_row row (rows_behind [] c.read_level.new.self)) is

pub loop-level-preserved : goal.loop-level-preserved
loop-level-preserved c =
    let s = c.loop-level.self in
    let is : c.in_ok-row.field-0 ≡ None = search rules in
    record {
      file = c.read_level.ensures.file ∙ c.loop-level.invariant.file;
      limit = c.read_level.ensures.limit ∙ c.loop-level.invariant.limit;
      rows = c.loop-level.invariant.rows
          ∙ ap (λ (steps : List Step). sound_rows s.left steps) (pushed s.file.bytes.now s.tree c.pop.new.self.items s.levels.items c.in-Some.level c.in-Some.ensures.items)
          ∙ c.in_ok-row.ensures.rows
          ∙ ap (λ (row : Option StoredRow). with_row row (rows_behind [] c.read_level.new.self)) is;
    }

use Rattle.std.proofs.Common.{◌≡◌, ◌∙◌, ◌+◌, ◌++◌, List, Some, ap, refl, sym, subst, rules}
use Rattle.sqlite_format.specs.Bytes.{u32_at}
use Rattle.ruled_database.specs.Listings.{LacksRow, rows_behind, steps_of, steps_of_all, with_row}
use Rattle.ruled_database.specs.Trees.{cell_at, page_of, Stored, Step, rows_below, sound_rows}
use Rattle.ruled_database.specs.declared.tree.Level.{Level}
use Rattle.std.specs.Prelude.{Bool}
use Rattle.ruled_database.proofs.Tabling.{inner_cell, lacks_row, leaf_cell, pushed}
use Rattle.ruled_database.proofs.tree.Cursor.read_cell.Goals as goal

pub returns-then-level-clause-rows : goal.returns-then-level-clause-rows
returns-then-level-clause-rows c =
    let s = c.args.self.now in
    let file = s.file.bytes.now in
    let level = c.args.level in
    let row = c.own_row-row.result in
    let cell = c.in_ok-cell.cell.now in
    let behind = steps_of_all file s.tree s.levels.items in
    let next : Level = record { node = level.node; below = level.below; place = level.place + 1; row = level.row } in
    let found : Some cell ≡ cell_at (page_of level.node) level.place = search rules in
    leaf_cell file s.tree level s.left (u32_at cell 0) cell row behind c.requires.row c.requires.place found refl c.own_row-row.ensures c.if-level.true
    ∙ ap (λ (steps : List Step). with_row row (sound_rows s.left steps)) (sym (pushed file s.tree s.levels.items c.push.new.self.items next c.in_ok-push.ensures.items))

pub returns-in_err-open-clause-fault : goal.returns-in_err-open-clause-fault
returns-in_err-open-clause-fault c =
    let s = c.args.self.now in
    let file = s.file.bytes.now in
    let level = c.args.level in
    let row = c.own_row-row.result in
    let cell = c.in_ok-cell.cell.now in
    let behind = steps_of_all file s.tree s.levels.items in
    let next : Level = record { node = level.node; below = level.below; place = level.place + 1; row = row } in
    let found : Some cell ≡ cell_at (page_of level.node) level.place = search rules in
    let same = inner_cell file s.tree level s.left c.get_u32.result cell row behind c.requires.row c.requires.place found c.get_u32.ensures c.own_row-row.ensures c.if-level.false
    ∙ ap (λ (steps : List Step). sound_rows s.left (rows_below file s.tree level.below c.get_u32.result ++ steps)) (sym (pushed file s.tree s.levels.items c.push-2.new.self.items next c.in_ok-push-2.ensures.items)) in
    lacks_row (rows_behind (steps_of file s.tree level) s) c.from_residual-in_err-open.result c.in_err-open.field-0.0 c.from_residual-in_err-open.ensures.1
    (subst (λ (rows : List Stored × Bool). LacksRow rows c.in_err-open.field-0.0) (sym same) c.in_err-open.ensures.fault)

pub returns-clause-rows : goal.returns-clause-rows
returns-clause-rows c =
    let s = c.args.self.now in
    let file = s.file.bytes.now in
    let level = c.args.level in
    let row = c.own_row-row.result in
    let cell = c.in_ok-cell.cell.now in
    let behind = steps_of_all file s.tree s.levels.items in
    let next : Level = record { node = level.node; below = level.below; place = level.place + 1; row = row } in
    let found : Some cell ≡ cell_at (page_of level.node) level.place = search rules in
    inner_cell file s.tree level s.left c.get_u32.result cell row behind c.requires.row c.requires.place found c.get_u32.ensures c.own_row-row.ensures c.if-level.false
    ∙ ap (λ (steps : List Step). sound_rows s.left (rows_below file s.tree level.below c.get_u32.result ++ steps)) (sym (pushed file s.tree s.levels.items c.push-2.new.self.items next c.in_ok-push-2.ensures.items))
    ∙ c.in_ok-open.ensures.rows

use Rattle.std.proofs.Common.{◌≡◌, ◌∙◌, [], false, sym}
use Rattle.sqlite.proofs.Callers.{memory_is_clean}
use Rattle.sqlite.specs.Held.{state}
use Rattle.sqlite.specs.Listing.{understood}
use Rattle.sqlite.specs.Steps.{over_memory}
use Rattle.ruled_sql.specs.Answers.{is_memory}
use Rattle.ruled_sql.proofs.Answering.{has-tables, lacks-table}
use Rattle.ruled_sql.proofs.filled.lacks_table.Goals as goal

pub returns-in-Ok : goal.returns-in-Ok
returns-in-Ok c = has-tables (understood (state over_memory c.args.connection.now).now.schema c.args.query.now) c.in-Ok.field-0 (c.in-Ok.ensures.shape (memory_is_clean c.prepare.new.self))

pub returns : goal.returns
returns c =
    let sound : is_memory c.in-Err.error ≡ false = sym c.is_memory.ensures ∙ c.if-is_memory.false in
    c.is_no_table.ensures ∙ lacks-table (state over_memory c.args.connection.now) (state over_memory c.prepare.new.self) c.args.query.now c.in-Err.error (c.in-Err.ensures.err (memory_is_clean c.prepare.new.self) []) sound

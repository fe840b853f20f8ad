use Rattle.std.proofs.Common.{refl, sym, subst}
use Rattle.sqlite.specs.Files.{file_state}
use Rattle.sqlite_disk.specs.Memory.{memory_bytes}
use Rattle.ruled_sql.specs.Answers.{IsUnopened}
use Rattle.ruled_sql.proofs.Answering.{found_in, stays_clean, handed, unopened}
use Rattle.ruled_sql.proofs.database.open.Goals as goal

pub returns-in_err-db-clause-fault : goal.returns-in_err-db-clause-fault
returns-in_err-db-clause-fault c =
    handed (IsUnopened c.args.bytes.now) c.from_residual.result c.in_err-db.field-0.0 c.from_residual.ensures.1 (subst (IsUnopened c.args.bytes.now) (sym c.in_err-db.ensures.memory) tt)

pub returns-in-Ok-clause-opened : goal.returns-in-Ok-clause-opened
returns-in-Ok-clause-opened c = c.in-Ok.ensures.opened (stays_clean (λ _. refl) c.in-Ok.connection)

pub returns-in-Ok-clause-found : goal.returns-in-Ok-clause-found
returns-in-Ok-clause-found c =
    let finds = c.in-Ok.ensures.found (stays_clean (λ _. refl) c.in-Ok.connection) in
    found_in (memory_bytes c.new.result) (memory_bytes c.in_ok-db.db) c.args.bytes.now c.new.ensures.empty c.in_ok-db.ensures.bytes (file_state c.in-Ok.connection)
    (record { holds = finds.holds; reads = finds.reads })

pub returns-in-Err-clause-fault : goal.returns-in-Err-clause-fault
returns-in-Err-clause-fault c =
    unopened (λ _. refl) (record { log = c.new.result; db = c.in_ok-db.db }) c.args.bytes.now c.in-Err.left c.in-Err.error c.new.ensures.empty c.in_ok-db.ensures.bytes c.in-Err.ensures.cause
    c.tally-caught.result c.tally.result c.into_files.result c.fault_of_file.result c.tally-caught.ensures c.into_files.ensures c.tally.ensures c.fault_of_file.ensures

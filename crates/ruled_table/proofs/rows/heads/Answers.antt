use Rattle.std.proofs.Common.{◌≡◌, ℕ, map, take, Option, sym, subst}
use Rattle.std.proofs.lemmas.List.{take-map}
use Rattle.csv.specs.Records.{fields_of}
use Rattle.ruled_table.specs.Shown.{up_to}
use Rattle.ruled_table.proofs.rows.heads.Goals as goal

pub returns-in-Some : goal.returns-in-Some
returns-in-Some c =
    let rows = c.args.rows.items in
    rw c.truncate.ensures.items (
    subst (λ (limit : Option ℕ). map fields_of (take c.in-Some.limit rows) ≡ up_to limit (map fields_of rows)) c.in-Some.ensures (sym (take-map fields_of c.in-Some.limit rows))
    )

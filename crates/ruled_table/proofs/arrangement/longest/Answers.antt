use Rattle.std.proofs.Common.{◌≡◌, ◌<◌, ◌≤◌, ◌∷◌, ◌+◌, ℕ, List, drop, length, map, max, arith}
use Rattle.std.proofs.lemmas.List.{drop_all}
use Rattle.csv.specs.Records.{Row, fields_of}
use Rattle.ruled_table.specs.Arranged.{longest}
use Rattle.ruled_table.proofs.LentTexts.{drop_next}
use Rattle.ruled_table.proofs.arrangement.longest.Goals as goal

pub loop-fields-preserved : goal.loop-fields-preserved
loop-fields-preserved c =
    let rows : List Row = c.args.rows.now in
    let i = c.loop-fields.fields-index in
    let within : i < length rows = omega arith in
    let next : drop i rows ≡ c.fields-item.result ∷ drop (i + 1) rows = drop_next rows i c.fields-item.result within c.fields-item.is in
    let rest : ℕ = longest (map fields_of (drop (i + 1) rows)) in
    let before : max c.loop-fields.longest (max (length (fields_of c.fields-item.result)) rest) ≡ longest (map fields_of rows) = rw next at c.loop-fields.invariant in
    omega (arith, before, c.longer-longest.ensures)

pub returns : goal.returns
returns c =
    let rows : List Row = c.args.rows.now in
    let i = c.loop-fields.fields-index in
    let past : length rows ≤ i = omega arith in
    let before = rw (drop_all i rows past) at c.loop-fields.invariant in
    omega (arith, before)

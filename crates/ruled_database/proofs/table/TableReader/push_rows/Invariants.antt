use Rattle.std.proofs.Common.{ℕ, List, map}
use Rattle.csv.specs.Records.{fields_of}
use Rattle.ruled_database.specs.Listings.{HasRead}
use Rattle.ruled_database.proofs.Reading.{HasPushed}
use Rattle.ruled_database.proofs.table.TableReader.push_rows.Given as goal

abbrev pub invariant-loop : goal.invariant-loop
invariant-loop l =
    (file name null_text : List ℕ) (given : List (List (List ℕ))) → HasRead file name null_text given l.fn.self
    → HasPushed file name null_text given l.counter (map fields_of l.fn.rows.items) (map fields_of l.rows.items) l.self

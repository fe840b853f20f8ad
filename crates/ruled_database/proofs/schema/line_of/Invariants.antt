use Rattle.std.proofs.Common.{◌≡◌, ◌++◌, length}
use Rattle.ruled_database.specs.Listings.{line_of}
use Rattle.ruled_database.proofs.schema.line_of.Given as goal

abbrev pub invariant-loop-columns : goal.invariant-loop-columns
invariant-loop-columns l = l.line.items ++ line_of l.columns ≡ line_of l.initial.columns

abbrev pub decreases-loop-columns : goal.decreases-loop-columns
decreases-loop-columns l = length l.columns

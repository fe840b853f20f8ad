use Rattle.std.proofs.Common.{◌≡◌, ◌+◌, ◌*◌, [], length}
use Rattle.ruled_database.specs.Listings.{rows_behind}
use Rattle.ruled_database.proofs.tree.Cursor.next_row.Given as goal

abbrev pub invariant-loop-level : goal.invariant-loop-level
invariant-loop-level l = record {
  file : l.self.file ≡ l.fn.self.file;
  limit : l.self.limit ≡ l.fn.self.limit;
  rows : rows_behind [] l.fn.self ≡ rows_behind [] l.self;
}

abbrev pub decreases-loop-level : goal.decreases-loop-level
decreases-loop-level l = 2 * l.self.left + length l.self.levels.items

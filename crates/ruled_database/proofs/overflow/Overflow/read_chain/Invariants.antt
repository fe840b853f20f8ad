use Rattle.std.proofs.Common.{◌≡◌, ◌≤◌, ℕ, List, Result}
use Rattle.ruled_database.specs.Trees.{Gives, chain}
use Rattle.ruled_database.specs.declared.fault.TableFault.{TableFault}
use Rattle.ruled_database.proofs.overflow.Overflow.read_chain.Given as goal

abbrev pub decreases-loop-left : goal.decreases-loop-left
decreases-loop-left l = l.left

-- what is still to come of the chain makes the whole
abbrev pub invariant-loop-left : goal.invariant-loop-left
invariant-loop-left l = record {
  file : l.self.file ≡ l.fn.self.file;
  pages : ℕ;
  enough : l.left ≤ pages;
  goes : (k : ℕ) (new : List ℕ) (r : Result ℕ TableFault) → Gives (chain l.fn.self.file.bytes.now pages l.number l.left) l.self.left k l.bytes.items new r
      → Gives (chain l.fn.self.file.bytes.now l.fn.count l.fn.first l.fn.count) l.fn.self.left k l.fn.bytes.items new r;
}

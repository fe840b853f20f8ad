use Rattle.std.proofs.Common.{length}
use Rattle.ruled_json.proofs.value.+member_at.Given as goal

abbrev pub decreases-member_at : goal.decreases-member_at
decreases-member_at l = length l.path.now

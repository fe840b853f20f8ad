use Rattle.std.proofs.Common.{◌≡◌, [], ◌++◌}
use Rattle.csv.specs.Records.{fields_of, partial_of}
use Rattle.ruled_csv.specs.Rows.{words_of}
use Rattle.ruled_csv.proofs.words.words_of.Given as goal

abbrev pub invariant-loop-count : goal.invariant-loop-count
invariant-loop-count l = (partial_of l.row ≡ []) × (fields_of l.row ++ words_of l.count l.rest ≡ words_of l.most l.text)

abbrev pub decreases-loop-count : goal.decreases-loop-count
decreases-loop-count l = l.count

use Rattle.std.proofs.Common.{◌≡◌, ◌∙◌, Option, IfSome, true, sym, subst, ap}
use Rattle.ruled_io.specs.Faults.{is_read, read_part, fault_written}
use Rattle.ruled_io.specs.declared.fault.RunFault.{RunFault}
use Rattle.ruled_io.specs.Reading.{read_failure}
use Rattle.ruled_io.proofs.Shows.{ending-remarked, read-noted}
use Rattle.ruled_io.proofs.Causes.{written-err}
use Rattle.ruled_io.proofs.program.run.Goals as goal

pub returns-clause-failed : goal.returns-clause-failed
returns-clause-failed g c = λ none. c.show.ensures.told none ∙ written-err c.show.result ∙ sym (ap fault_written c.ending_of.ensures.fault)

pub returns-clause-read : goal.returns-clause-read
returns-clause-read g c =
    let failure = read_failure c.show.new.pieces in
    subst (λ (fault : Option RunFault). IfSome fault (λ found. is_read found ≡ true → failure ≡ read_part found)) (sym c.ending_of.ensures.fault) (read-noted failure c.show.result c.show.ensures.noted)

pub returns-clause-remarks : goal.returns-clause-remarks
returns-clause-remarks g c = λ none. ending-remarked (g.R.Read.remaining c.args.input.now.input) c.args.request.now c.show.result c.ending_of.result.remarks c.show.ensures.remarks c.ending_of.ensures.remarks (sym c.ending_of.ensures.fault ∙ none)

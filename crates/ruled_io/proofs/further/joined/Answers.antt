use Rattle.std.proofs.Common.{◌≡◌, ◌∙◌, List, Option, None, Some, map, refl, sym, ap}
use Rattle.csv.specs.Records.{fields_of}
use Rattle.pg_layout.specs.Text.{Text}
use Rattle.ruled_io.specs.Input.{misfit, rows_held}
use Rattle.ruled_io.specs.Requests.{is_ragged}
use Rattle.ruled_io.specs.Stream.{beneath}
use Rattle.ruled_io.proofs.Inputs.{joins-on, leads-on, misfit-wrong}
use Rattle.ruled_io.proofs.further.joined.Goals as goal

never-some : {X : Type 0} (o : Option X) → ((x : X) → o ≡ Some x → ⊥) → o ≡ None
never-some None none = refl
never-some (Some x) none = absurd (none x refl)

pub returns-in-Some-clause-fault : goal.returns-in-Some-clause-fault
returns-in-Some-clause-fault c =
    let options = c.args.options.now in
    let inputs = c.args.further.now in
    let first : List (List Text) = map fields_of c.args.rows.items in
    let all : List (List Text) = map fields_of c.loop-number.all.items in
    let input = c.index-further-number.result in
    let wrong : misfit options (is_ragged input.source) all (rows_held input) ≡ Some c.in-Some.fault =
    rw (sym c.is_ragged.ensures, sym c.in_ok-rows.ensures.rows, sym c.deref.ensures.value, sym c.deref-in-loop-number.ensures.value) (sym c.misfit.ensures ∙ c.in-Some.is) in
    λ soft. misfit-wrong options inputs first c.loop-number.number input c.loop-number-test.true c.index-further-number.is all c.in-Some.fault c.loop-number.invariant.rows c.loop-number.invariant.fault
    c.in_ok-rows.ensures.fault wrong

pub loop-number-preserved : goal.loop-number-preserved
loop-number-preserved c =
    let options = c.args.options.now in
    let inputs = c.args.further.now in
    let first : List (List Text) = map fields_of c.args.rows.items in
    let all : List (List Text) = map fields_of c.loop-number.all.items in
    let number = c.loop-number.number in
    let input = c.index-further-number.result in
    let within = c.loop-number-test.true in
    let joins = c.loop-number.invariant.rows in
    let none : misfit options (is_ragged input.source) all (rows_held input) ≡ None =
    rw (sym c.is_ragged.ensures, sym c.in_ok-rows.ensures.rows, sym c.deref.ensures.value, sym c.deref-in-loop-number.ensures.value) (sym c.misfit.ensures ∙ never-some c.misfit.result c.in_default.not-Some) in
    let more : map fields_of c.append.new.all.items ≡ beneath options all (rows_held input) = c.in_ok-append.ensures ∙ ap (beneath options all) c.in_ok-rows.ensures.rows in
    record {
      rows = more ∙ joins-on options inputs first number input within c.index-further-number.is all joins;
      fault = leads-on options inputs first number input within c.index-further-number.is all joins c.loop-number.invariant.fault c.in_ok-rows.ensures.fault none;
    }

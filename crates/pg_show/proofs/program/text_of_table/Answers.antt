use Rattle.std.proofs.Common.{◌≡◌, ◌∙◌, ◌++◌, None, Err, string_bytes, arith, ap}
use Rattle.std.specs.Result.{is_err}
use Rattle.std.proofs.lemmas.Bool.{false≢true}
use Rattle.pg_script.specs.Script.{told_of_script}
use Rattle.pg_show.specs.Show.{misfit_in, text_in}
use Rattle.pg_show.proofs.ScriptTables.{Answers-unprinted, answer_of_told-printed, misfit-none, Prints-ok}
use Rattle.pg_show.proofs.program.text_of_table.Goals as goal

pub returns-in_err-print_script : goal.returns-in_err-print_script
returns-in_err-print_script g c =
    let misfit = c.in_err-print_script.ensures.misfit in
    Answers-unprinted c.args.mode (told_of_script c.args.script.now) _ c.from_residual.result (λ m is. (misfit m).0 (ap Err is)) c.from_residual.ensures.1

pub returns : goal.returns
returns g c =
    let told = told_of_script c.args.script.now in
    let misfit = c.in_ok-print_script.ensures.misfit in
    let fits : misfit_in c.args.mode told ≡ None = misfit-none _ (λ m is. absurd (false≢true (ap is_err ((misfit m).1 is)))) in
    let text : string_bytes c.print_script.new.buf ≡ text_in c.args.mode told =
    Prints-ok _ c.args.mode c.new-text.result c.print_script.new.buf _ _ (c.in_ok-print_script.ensures.printed fits) ∙ ap (λ old. old ++ text_in c.args.mode told) c.new-text.ensures.bytes in
    let fed = c.in_ok-push.ensures.bytes ∙ ap (λ feed. string_bytes c.print_script.new.buf ++ feed) (c.in_ok-push.ensures.ascii (omega arith)) in
    answer_of_told-printed c.args.mode told (string_bytes c.print_script.new.buf) (string_bytes c.push.new.self) fits text fed

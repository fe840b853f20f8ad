use Rattle.std.proofs.Common.{◌≡◌, true, IfSome, inr, refl, subst, arith, Ok, Err}
use Rattle.std.proofs.lemmas.Result.{err_from_is_err_and}
use Rattle.pg_picture.specs.Fits.{spans_fit}
use Rattle.pg_picture.specs.Table.{Table}
use Rattle.pg_picture.proofs.Appending.{refused-as, appended-as, Appends-text}
use Rattle.pg_stream.specs.Printers.{now_of}
use Rattle.pg_stream.specs.declared.fault.StreamFault.{StreamFault}
use Rattle.pg_stream.proofs.printer.Ending.{finish-any, sound-ended, none-ends, ends}
use Rattle.pg_stream.proofs.printer.progress.Progress.close.Goals as goal

pub returns-then-self-eq0-clause-ends : goal.returns-then-self-eq0-clause-ends
returns-then-self-eq0-clause-ends g c = let none : c.args.self.now.rows ≡ 0 = omega arith in none-ends tt none

pub push_end-requires-clause-sound : goal.push_end-requires-clause-sound
push_end-requires-clause-sound g c =
    let may = subst (λ (t : Table). IfSome c.args.frame.now.hint (λ rows. c.args.self.now.rows ≡ rows) × (spans_fit t.config.spans c.args.self.now.rows t.columns ≡ true)) c.requires.is (c.may_end.ensures.0 c.if-not-may_end.false) in
    record {
      printer = sound-ended (now_of g.T.TableMarker.table c.args.frame.now.hint c.args.self.now) g.T.TableMarker.table c.args.frame.now.sheet.width c.args.frame.now.sheet.height c.args.self.now.cells c.requires.sound.printer may;
      kept = c.requires.sound.kept;
    }

pub returns-in_err-push_end-clause-ends : goal.returns-in_err-push_end-clause-ends
returns-in_err-push_end-clause-ends g c =
    let may = subst (λ (t : Table). IfSome c.args.frame.now.hint (λ rows. c.args.self.now.rows ≡ rows) × (spans_fit t.config.spans c.args.self.now.rows t.columns ≡ true)) c.requires.is (c.may_end.ensures.0 c.if-not-may_end.false) in
    let p = err_from_is_err_and c.from_residual.result c.from_residual.ensures.1 in
    rw (p.1, p.2) (ends (Err StreamFault.Memory) (inr may) (Appends-text (finish-any (now_of g.T.TableMarker.table c.args.frame.now.hint c.args.self.now) true) (refused-as refl c.in_err-push_end.ensures.appends)) tt)

pub returns-clause-ends : goal.returns-clause-ends
returns-clause-ends g c =
    let may = subst (λ (t : Table). IfSome c.args.frame.now.hint (λ rows. c.args.self.now.rows ≡ rows) × (spans_fit t.config.spans c.args.self.now.rows t.columns ≡ true)) c.requires.is (c.may_end.ensures.0 c.if-not-may_end.false) in
    ends (Ok tt) (inr may) (Appends-text (finish-any (now_of g.T.TableMarker.table c.args.frame.now.hint c.args.self.now) true) (appended-as c.in_ok-push_end.ensures.appends)) tt

use Rattle.std.proofs.Common.{arith, ap, string_bytes}
use Rattle.std.proofs.lemmas.Str.{IsUtf8-string_bytes}
use Rattle.pg_layout.specs.Text.{text_width_of}
use Rattle.pg_fit.proofs.LawsOfTexts.{wrapped_texts_fit}
use Rattle.pg_table.proofs.TrimmedWidths.{widest-narrower}
use Rattle.pg_table.proofs.overflow.Overflow.fit.Goals as goal

pub returns-in_ok-made-in-Wrap-clause-room : goal.returns-in_ok-made-in-Wrap-clause-room
returns-in_ok-made-in-Wrap-clause-room g c = λ plain least formatting.
    let made = c.in_ok-made-in-Wrap.made in
    let low = wrapped_texts_fit c.in-Wrap.breaking c.args.width c.args.text.now c.utf8.text (rw c.in-Wrap.is at least) in
    omega (arith, widest-narrower formatting (string_bytes made) (IsUtf8-string_bytes made), ap text_width_of c.in_ok-made-in-Wrap.ensures, low)

pub returns-in_ok-made-in-Cut-clause-room : goal.returns-in_ok-made-in-Cut-clause-room
returns-in_ok-made-in-Cut-clause-room g c = λ plain least. c.in_ok-made-in-Cut.ensures.room (rw c.in-Cut.is at plain)

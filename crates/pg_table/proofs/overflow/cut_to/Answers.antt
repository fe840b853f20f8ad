use Rattle.std.proofs.Common.{arith, ap, string_bytes}
use Rattle.std.proofs.lemmas.Str.{IsUtf8-string_bytes}
use Rattle.pg_layout.specs.Text.{text_width_of}
use Rattle.pg_fit.proofs.LawsOfCuts.{cut_texts_fit}
use Rattle.pg_table.proofs.TrimmedWidths.{widest-narrower}
use Rattle.pg_table.proofs.overflow.cut_to.Goals as goal

pub returns-clause-room : goal.returns-clause-room
returns-clause-room g c = λ plain formatting.
    let made = c.in_ok-made.made in
    let low = cut_texts_fit c.args.width c.args.tail.now c.args.text.now c.utf8.text c.utf8.tail plain in
    omega (arith, widest-narrower formatting (string_bytes made) (IsUtf8-string_bytes made), ap text_width_of c.in_ok-made.ensures, low)

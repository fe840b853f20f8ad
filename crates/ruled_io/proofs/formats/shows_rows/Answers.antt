use Rattle.std.proofs.Common.{◌∙◌, inl, inr, sym, subst}
use Rattle.ruled_io.specs.Reading.{ShowsText}
use Rattle.ruled_io.specs.declared.formats.Format.{Format}
use Rattle.ruled_io.specs.declared.formats.Format.TheVariants.{Separated}
use Rattle.ruled_io.specs.declared.formats.Known.TheVariants as known
use Rattle.ruled_io.proofs.Fronts.{json-shown, told-shown}
use Rattle.ruled_io.proofs.formats.shows_rows.Goals as goal

pub returns-in-Separated : goal.returns-in-Separated
returns-in-Separated c = λ shows behind. subst (λ (f : Format). ShowsText (known.Format f) c.args.text.now behind) (sym c.in-Separated.is) (told-shown (Separated c.in-Separated.dialect) c.args.text.now behind (sym c.has_row_line.ensures ∙ shows))

pub returns-in-Json : goal.returns-in-Json
returns-in-Json c = λ shows behind. json-shown c.args.format c.args.text.now behind (inl c.in-Json.is)

pub returns-in-JsonLines : goal.returns-in-JsonLines
returns-in-JsonLines c = λ shows behind. json-shown c.args.format c.args.text.now behind (inr c.in-JsonLines.is)

use Rattle.std.proofs.Common.{◌∙◌, sym, subst}
use Rattle.ruled_io.specs.Reading.{ShowsText}
use Rattle.ruled_io.specs.declared.formats.Known.{Known}
use Rattle.ruled_io.proofs.Fronts.{values-shown}
use Rattle.ruled_io.proofs.formats.shows_text.Goals as goal

pub returns-in-Format : goal.returns-in-Format
returns-in-Format c = λ shows behind. subst (λ (k : Known). ShowsText k c.args.text.now behind) (sym c.in-Format.is) (c.shows_rows.ensures shows behind)

pub returns-in-Values : goal.returns-in-Values
returns-in-Values c = λ shows behind. subst (λ (k : Known). ShowsText k c.args.text.now behind) (sym c.in-Values.is) (values-shown c.in-Values.rules c.args.text.now behind (sym c.has_row_line.ensures ∙ shows))

pub returns-in-Nothing : goal.returns-in-Nothing
returns-in-Nothing c = λ shows behind. subst (λ (k : Known). ShowsText k c.args.text.now behind) (sym c.in-Nothing.is) (c.shows_sign.ensures shows behind)

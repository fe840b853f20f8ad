use Rattle.std.proofs.Common.{◌∙◌, sym}
use Rattle.ruled_io.proofs.Fronts.{bracket-shows, line-shows}
use Rattle.ruled_io.proofs.formats.shows_sign.Goals as goal

pub returns-in-Some-eq91 : goal.returns-in-Some-eq91
returns-in-Some-eq91 c = λ shows behind. bracket-shows c.args.rules c.args.text.now behind c.in-Some-eq91.field-0 (sym c.first_sign.ensures ∙ c.in-Some-eq91.is) c.in-Some-eq91.field-0-test

pub returns-in-Some : goal.returns-in-Some
returns-in-Some c = λ shows behind. line-shows c.args.rules c.args.text.now behind c.in-Some.field-0 (sym c.first_sign.ensures ∙ c.in-Some.is) (sym c.has_row_line.ensures ∙ shows)

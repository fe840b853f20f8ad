use Rattle.std.proofs.Common.{sym, ◌∙◌}
use Rattle.pg_layout.proofs.TextLines.{text_width_of-plain}
use Rattle.pg_picture.proofs.PlacesOfTexts.{widest-untrimmed}
use Rattle.pg_picture.proofs.fits.room.width_of_text.Goals as goal

pub returns-in-Plain : goal.returns-in-Plain
returns-in-Plain c = sym (text_width_of-plain c.args.text.now (c.requires.kind c.in-Plain.is)) ∙ widest-untrimmed c.args.trim c.args.text.now (c.requires.whole c.in-Plain.is)

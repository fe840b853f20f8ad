use Rattle.std.proofs.Common.{ap, ◌∙◌}
use Rattle.pg_picture.specs.Fits.{cell_fits}
use Rattle.pg_picture.specs.Pieces.{Style}
use Rattle.pg_stream.proofs.printer.frame.Frame.kind_if_cell_fits.Goals as goal

-- a horizontal alignment takes no room
pub returns-in-Some-clause-room : goal.returns-in-Some-clause-room
unfolding cell_fits
returns-in-Some-clause-room g c =
    let sheet = c.args.self.now.sheet in
    c.kind_if_fits.ensures.room ∙ ap (λ (s : Style). cell_fits s c.args.text.now c.args.width c.args.height) (sheet.is_of_all c.in-Some.style c.in-Some.is c.args.pos)

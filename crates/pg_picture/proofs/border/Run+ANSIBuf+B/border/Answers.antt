use Rattle.std.proofs.Common.{◌≡◌, Option, None, IfOk, subst}
use Rattle.pg_layout.specs.Colors.{Color}
use Rattle.pg_config.specs.Config.{get_horizontal}
use Rattle.pg_picture.proofs.Appending.{Appends-text}
use Rattle.pg_picture.proofs.Separators.{items_after-no_border, last_color-no_border}
use Rattle.pg_picture.proofs.border.Run+ANSIBuf+B.border.Goals as goal

pub returns-in-None-clause-appends : goal.returns-in-None-clause-appends
returns-in-None-clause-appends g c =
    let none : get_horizontal c.args.config.now c.args.pos c.args.rows ≡ None = cc in
    Appends-text (items_after-no_border c.args.self c.args.config.now c.args.pos c.args.rows c.args.width none) c.spaces.ensures.appends

pub returns-in-None-clause-color : goal.returns-in-None-clause-color
returns-in-None-clause-color g c =
    let none : get_horizontal c.args.config.now c.args.pos c.args.rows ≡ None = cc in
    let P : Option Color → Type 0 = λ d. IfOk c.spaces.result (λ run. run ≡ d) in
    subst P (last_color-no_border c.args.self c.args.config.now c.args.pos c.args.rows c.args.width none) c.spaces.ensures.color

use Rattle.std.proofs.Common.{◌≡◌, ◌-◌, ◌<◌, ◌≤◌, ap, sym, ◌∙◌, arith}
use Rattle.pg_layout.specs.declared.sides.Indent.{Indent}
use Rattle.pg_layout.specs.declared.sides.Sides.{Sides}
use Rattle.pg_layout.specs.Records.{text_at}
use Rattle.pg_config.specs.Config.{get_formatting}
use Rattle.pg_fit.specs.Overlaid.{other_text}
use Rattle.pg_picture.specs.Pieces.{widest}
use Rattle.pg_table.specs.Natural.{paddings}
use Rattle.pg_table.specs.Fitted.{overflowed}
use Rattle.pg_table.specs.declared.sizes.Axis.TheVariants.{Columns}
use Rattle.pg_table.proofs.FittedColumns.{fitted_text-stays, fitted_text-overflows}
use Rattle.pg_table.proofs.FittedPlaces.{other-set, other-kept}
use Rattle.pg_table.proofs.sizes.NaturalSizes.fit_cell.Goals as goal

pub returns-in_ok-set-clause-here : goal.returns-in_ok-set-clause-here
returns-in_ok-set-clause-here g c =
    let self = c.args.self.now in
    let texts = g.R.Records.texts self.records in
    let left = ap (λ (s : Sides Indent). s.left.size) c.padding-padding.ensures in
    let right = ap (λ (s : Sides Indent). s.right.size) c.padding-padding.ensures in
    let room : c.saturating_sub-room.result ≡ c.args.width - paddings Columns self.config.now c.args.pos = omega (arith, left, right) in
    let wide : c.args.width - paddings Columns self.config.now c.args.pos < widest (get_formatting self.config.now c.args.pos) (text_at texts c.args.pos) = omega (arith, room, c.text_size.ensures) in
    ap (λ o. other_text o.others texts c.args.pos) c.in_ok-set.ensures.ok
    ∙ other-set texts c.args.fitted.now.others c.args.pos c.in_ok-text.text
    ∙ c.in_ok-text.ensures.text
    ∙ ap (λ t. overflowed c.args.how c.saturating_sub-room.result t) c.get_text.ensures
    ∙ ap (λ n. overflowed c.args.how n (text_at texts c.args.pos)) room
    ∙ sym (fitted_text-overflows c.args.how (get_formatting self.config.now c.args.pos) (c.args.width - paddings Columns self.config.now c.args.pos) (text_at texts c.args.pos) wide)

pub returns-in_ok-set-clause-others : goal.returns-in_ok-set-clause-others
returns-in_ok-set-clause-others g c = λ q away.
    let texts = g.R.Records.texts c.args.self.now.records in
    ap (λ o. other_text o.others texts q) c.in_ok-set.ensures.ok ∙ other-kept texts c.args.fitted.now.others c.args.pos c.in_ok-text.text q away

pub returns-in_ok-set-clause-room : goal.returns-in_ok-set-clause-room
returns-in_ok-set-clause-room g c = λ plain least.
    let self = c.args.self.now in
    let texts = g.R.Records.texts self.records in
    let formatting = get_formatting self.config.now c.args.pos in
    let left = ap (λ (s : Sides Indent). s.left.size) c.padding-padding.ensures in
    let right = ap (λ (s : Sides Indent). s.right.size) c.padding-padding.ensures in
    let room : c.saturating_sub-room.result ≡ c.args.width - paddings Columns self.config.now c.args.pos = omega (arith, left, right) in
    let wide : c.args.width - paddings Columns self.config.now c.args.pos < widest formatting (text_at texts c.args.pos) = omega (arith, room, c.text_size.ensures) in
    let low = c.in_ok-text.ensures.room plain (rw c.get_text.ensures (omega (arith, room, wide, least))) formatting in
    let is =
    c.in_ok-text.ensures.text
    ∙ ap (λ t. overflowed c.args.how c.saturating_sub-room.result t) c.get_text.ensures
    ∙ ap (λ n. overflowed c.args.how n (text_at texts c.args.pos)) room
    ∙ sym (fitted_text-overflows c.args.how formatting (c.args.width - paddings Columns self.config.now c.args.pos) (text_at texts c.args.pos) wide) in
    omega (arith, low, ap (widest formatting) is, room, least)

pub returns-else-text_size-room-clause-here : goal.returns-else-text_size-room-clause-here
returns-else-text_size-room-clause-here g c =
    let self = c.args.self.now in
    let texts = g.R.Records.texts self.records in
    let left = ap (λ (s : Sides Indent). s.left.size) c.padding-padding.ensures in
    let right = ap (λ (s : Sides Indent). s.right.size) c.padding-padding.ensures in
    let low : widest (get_formatting self.config.now c.args.pos) (text_at texts c.args.pos) ≤ c.args.width - paddings Columns self.config.now c.args.pos = omega (arith, left, right, c.text_size.ensures) in
    c.requires.own ∙ sym (fitted_text-stays c.args.how (get_formatting self.config.now c.args.pos) (c.args.width - paddings Columns self.config.now c.args.pos) (text_at texts c.args.pos) low)

pub returns-else-text_size-room-clause-room : goal.returns-else-text_size-room-clause-room
returns-else-text_size-room-clause-room g c = λ plain least.
    let self = c.args.self.now in
    let texts = g.R.Records.texts self.records in
    let formatting = get_formatting self.config.now c.args.pos in
    let left = ap (λ (s : Sides Indent). s.left.size) c.padding-padding.ensures in
    let right = ap (λ (s : Sides Indent). s.right.size) c.padding-padding.ensures in
    let low : widest formatting (text_at texts c.args.pos) ≤ c.args.width - paddings Columns self.config.now c.args.pos = omega (arith, left, right, c.text_size.ensures) in
    omega (arith, least, low, ap (widest formatting) (fitted_text-stays c.args.how formatting (c.args.width - paddings Columns self.config.now c.args.pos) (text_at texts c.args.pos) low))

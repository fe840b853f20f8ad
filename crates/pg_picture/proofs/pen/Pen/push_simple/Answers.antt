use Rattle.std.proofs.Common.{◌≡◌, ℕ, true, ap, ap₂, ◌∙◌, lit<, arith}
use Rattle.pg_config.specs.Config.{get_alignment_horizontal}
use Rattle.pg_layout.specs.declared.alignment.AlignmentHorizontal.{AlignmentHorizontal}
use Rattle.pg_picture.specs.Fits.{cell_fits}
use Rattle.pg_picture.specs.Pieces.{Style, inner_width, shares}
use Rattle.pg_picture.specs.Inside.{style_of}
use Rattle.pg_picture.proofs.Appending.{Appends-text}
use Rattle.pg_picture.proofs.PlacesOfTexts.{simple-parts, single-measured, room-of-whole, cell_fits-width}
use Rattle.pg_picture.proofs.pen.Pen.push_simple.Goals as goal

abbrev aligned : Style → AlignmentHorizontal → Style
aligned style side = record style { across = side }

pub inner_width-inner-requires : goal.inner_width-inner-requires
inner_width-inner-requires g c =
    let style = aligned (style_of c.args.style.now) (get_alignment_horizontal g.T.TableMarker.table.config c.args.cell.pos) in
    let cell = c.args.cell in
    let fits : cell_fits style cell.text.now cell.width 1 ≡ true = ap (λ s. cell_fits s cell.text.now cell.width 1) c.requires.style ∙ cell.has_room in
    omega (arith, cell_fits-width style cell.text.now cell.width 1 (lit< tt) fits)

pub calculate_indent-share-requires : goal.calculate_indent-share-requires
unfolding inner_width
calculate_indent-share-requires g c =
    let style = aligned (style_of c.args.style.now) (get_alignment_horizontal g.T.TableMarker.table.config c.args.cell.pos) in
    let cell = c.args.cell in
    let fits : cell_fits style cell.text.now cell.width 1 ≡ true = ap (λ s. cell_fits s cell.text.now cell.width 1) c.requires.style ∙ cell.has_room in
    let room = room-of-whole style cell.text.now cell.width c.args.line_width (simple-parts style c.requires.simple).0 c.requires.one c.requires.width (cell_fits-width style cell.text.now cell.width 1 (lit< tt) fits) in
    omega (arith, room, c.inner_width-inner.ensures)

pub overflow_sub-inner : goal.overflow_sub-inner
unfolding inner_width
overflow_sub-inner g c =
    let style = aligned (style_of c.args.style.now) (get_alignment_horizontal g.T.TableMarker.table.config c.args.cell.pos) in
    let cell = c.args.cell in
    let fits : cell_fits style cell.text.now cell.width 1 ≡ true = ap (λ s. cell_fits s cell.text.now cell.width 1) c.requires.style ∙ cell.has_room in
    let room = room-of-whole style cell.text.now cell.width c.args.line_width (simple-parts style c.requires.simple).0 c.requires.one c.requires.width (cell_fits-width style cell.text.now cell.width 1 (lit< tt) fits) in
    let left = ap (λ (n : ℕ × ℕ). n.0) (c.calculate_indent-share.ensures ∙ ap₂ (λ s n. shares s c.args.line_width n) c.side_of-side.ensures c.inner_width-inner.ensures) in
    omega (arith, room, left, c.inner_width-inner.ensures)

pub overflow_sub-inner-2 : goal.overflow_sub-inner-2
unfolding inner_width
overflow_sub-inner-2 g c =
    let style = aligned (style_of c.args.style.now) (get_alignment_horizontal g.T.TableMarker.table.config c.args.cell.pos) in
    let cell = c.args.cell in
    let fits : cell_fits style cell.text.now cell.width 1 ≡ true = ap (λ s. cell_fits s cell.text.now cell.width 1) c.requires.style ∙ cell.has_room in
    let room = room-of-whole style cell.text.now cell.width c.args.line_width (simple-parts style c.requires.simple).0 c.requires.one c.requires.width (cell_fits-width style cell.text.now cell.width 1 (lit< tt) fits) in
    let left = ap (λ (n : ℕ × ℕ). n.0) (c.calculate_indent-share.ensures ∙ ap₂ (λ s n. shares s c.args.line_width n) c.side_of-side.ensures c.inner_width-inner.ensures) in
    omega (arith, room, left, c.inner_width-inner.ensures)

pub push_plain_parts-requires-clause-left : goal.push_plain_parts-requires-clause-left
unfolding inner_width
push_plain_parts-requires-clause-left g c =
    let style = aligned (style_of c.args.style.now) (get_alignment_horizontal g.T.TableMarker.table.config c.args.cell.pos) in
    let cell = c.args.cell in
    let fits : cell_fits style cell.text.now cell.width 1 ≡ true = ap (λ s. cell_fits s cell.text.now cell.width 1) c.requires.style ∙ cell.has_room in
    let room = room-of-whole style cell.text.now cell.width c.args.line_width (simple-parts style c.requires.simple).0 c.requires.one c.requires.width (cell_fits-width style cell.text.now cell.width 1 (lit< tt) fits) in
    let left = ap (λ (n : ℕ × ℕ). n.0) (c.calculate_indent-share.ensures ∙ ap₂ (λ s n. shares s c.args.line_width n) c.side_of-side.ensures c.inner_width-inner.ensures) in
    omega (arith, room, left, c.inner_width-inner.ensures)

pub push_plain_parts-requires-clause-right : goal.push_plain_parts-requires-clause-right
unfolding inner_width
push_plain_parts-requires-clause-right g c =
    let style = aligned (style_of c.args.style.now) (get_alignment_horizontal g.T.TableMarker.table.config c.args.cell.pos) in
    let cell = c.args.cell in
    let fits : cell_fits style cell.text.now cell.width 1 ≡ true = ap (λ s. cell_fits s cell.text.now cell.width 1) c.requires.style ∙ cell.has_room in
    let room = room-of-whole style cell.text.now cell.width c.args.line_width (simple-parts style c.requires.simple).0 c.requires.one c.requires.width (cell_fits-width style cell.text.now cell.width 1 (lit< tt) fits) in
    let left = ap (λ (n : ℕ × ℕ). n.0) (c.calculate_indent-share.ensures ∙ ap₂ (λ s n. shares s c.args.line_width n) c.side_of-side.ensures c.inner_width-inner.ensures) in
    omega (arith, room, left, c.inner_width-inner.ensures)

pub returns : goal.returns
unfolding inner_width
returns g c =
    let style = aligned (style_of c.args.style.now) (get_alignment_horizontal g.T.TableMarker.table.config c.args.cell.pos) in
    let cell = c.args.cell in
    let left = ap (λ (n : ℕ × ℕ). n.0) (c.calculate_indent-share.ensures ∙ ap₂ (λ s n. shares s c.args.line_width n) c.side_of-side.ensures c.inner_width-inner.ensures) in
    Appends-text (single-measured style _ _ _ cell.text.now cell.width c.inner_width-inner.result c.calculate_indent-share.result.0 c.args.line_width c.requires.style c.color_of-color.ensures (simple-parts style c.requires.simple).0 c.requires.one c.inner_width-inner.ensures c.requires.width left) c.push_plain_parts.ensures

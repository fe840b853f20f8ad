use Rattle.std.proofs.Common.{◌≡◌, ◌∙◌, sym, ap, ap₂, subst, refl, ℕ, IsSome}
use Rattle.pg_layout.specs.Text.{Text}
use Rattle.pg_picture.specs.Inside.{place_in}
use Rattle.pg_picture.specs.Grids.{sheet_table}
use Rattle.pg_picture.specs.Pieces.{style_at}
use Rattle.pg_picture.specs.Sizes.{height_of_rect}
use Rattle.pg_picture.specs.Table.{rect_width}
use Rattle.pg_picture.specs.declared.place.CellPlace.{CellPlace}
use Rattle.pg_picture.proofs.FittingTables.{some_is}
use Rattle.pg_stream.proofs.draw.OpenLists.{width-some, height-some}
use Rattle.pg_stream.proofs.draw.streamed_table.StreamedTable.begin_cell.Goals as goal

pub unwrap-width-requires : goal.unwrap-width-requires
unwrap-width-requires g c =
    let t = sheet_table g.T.TableMarker.table.rows g.T.TableMarker.table.text g.D.Dimension.width g.D.Dimension.height g.C.Colors.color c.args.self.pen.sheet.now in
    let may = rw (← c.args.self.pen.is) at c.requires.may in
    subst IsSome (sym (width-some t c.args.pos c.width_of_columns.result may.room.width (c.width_of_columns.ensures 0))) refl

pub place_of-place-requires : goal.place_of-place-requires
place_of-place-requires g c =
    let t = sheet_table g.T.TableMarker.table.rows g.T.TableMarker.table.text g.D.Dimension.width g.D.Dimension.height g.C.Colors.color c.args.self.pen.sheet.now in
    let may = rw (← c.args.self.pen.is) at c.requires.may in
    let w = some_is c.unwrap-width.result (rect_width t c.args.pos) (sym c.unwrap-width.ensures ∙ width-some t c.args.pos c.width_of_columns.result may.room.width (c.width_of_columns.ensures 0)) in
    let h = some_is c.unwrap-height.result (height_of_rect t.config t.height c.args.pos) (sym c.unwrap-height.ensures ∙ height-some t c.args.pos c.height_of_rows.result may.room.end may.room.height c.height_of_rows.ensures) in
    rw (← c.args.self.pen.is, c.as_str.ensures, w, h) may.room.room

pub returns : goal.returns
returns g c =
    let t = sheet_table g.T.TableMarker.table.rows g.T.TableMarker.table.text g.D.Dimension.width g.D.Dimension.height g.C.Colors.color c.args.self.pen.sheet.now in
    let may = rw (← c.args.self.pen.is) at c.requires.may in
    let text = g.S.AsStr.text c.args.value in
    let w = some_is c.unwrap-width.result (rect_width t c.args.pos) (sym c.unwrap-width.ensures ∙ width-some t c.args.pos c.width_of_columns.result may.room.width (c.width_of_columns.ensures 0)) in
    let h = some_is c.unwrap-height.result (height_of_rect t.config t.height c.args.pos) (sym c.unwrap-height.ensures ∙ height-some t c.args.pos c.height_of_rows.result may.room.end may.room.height c.height_of_rows.ensures) in
    let stands : c.place_of-place.result ≡ place_in (style_at t.config c.args.pos) text (rect_width t c.args.pos) (height_of_rect t.config t.height c.args.pos) =
    (rw (← c.args.self.pen.is) at c.place_of-place.ensures.place) ∙ ap (λ (x : Text). place_in (style_at t.config c.args.pos) x c.unwrap-width.result c.unwrap-height.result) c.as_str.ensures ∙ ap₂ (λ (m n : ℕ). place_in (style_at t.config c.args.pos) text m n) w h in
    rw (← c.args.self.pen.is) (c.new.ensures ∙ ap₂ (λ (m : ℕ) (p : CellPlace). record { begun = c.args.pos.row; text = text; drawn = 0; width = m; place = p }) w stands)

use Rattle.std.proofs.Common.{sym, ap, ap₂, ◌∙◌, subst, arith}
use Rattle.pg_layout.specs.declared.position.Position.{Position}
use Rattle.pg_config.specs.Spans.{rect_rows, rect_columns}
use Rattle.pg_picture.specs.Rectangles.{IsOwner}
use Rattle.pg_picture.specs.Table.{Table, rect_width, rect_height}
use Rattle.pg_picture.proofs.FittingTables.{some_is}
use Rattle.pg_picture.proofs.Ranges.{is_some_answer}
use Rattle.pg_peekable.proofs.CanDraw.{owner_inside, rect-width-answer, rect-height-answer, lines-none}
use Rattle.pg_peekable.proofs.looked_up_table.LookedUpTable.rectangle_of.Goals as goal

pub width_of_columns-requires-clause-count : goal.width_of_columns-requires-clause-count
width_of_columns-requires-clause-count g c = c.requires.owner.columns ∙ ap₂ (λ (t : Table) (p : Position). rect_columns t.config.spans p) (sym c.args.self.now.is) (sym c.corner_of-corner.ensures)

pub width_of_columns-requires-clause-some : goal.width_of_columns-requires-clause-some
width_of_columns-requires-clause-some g c =
    let own = subst (IsOwner g.T.TableMarker.table) (sym c.corner_of-corner.ensures) c.requires.owner.owner in
    rw (ap (λ (t : Table). t.config) c.args.self.now.is) (owner_inside g.T.TableMarker.table c.args.self.now.can c.corner_of-corner.result own).some_columns

pub width_of_columns-requires-clause-inside : goal.width_of_columns-requires-clause-inside
width_of_columns-requires-clause-inside g c =
    let own = subst (IsOwner g.T.TableMarker.table) (sym c.corner_of-corner.ensures) c.requires.owner.owner in
    rw (ap (λ (t : Table). t.config) c.args.self.now.is, c.args.self.now.shape.columns) (owner_inside g.T.TableMarker.table c.args.self.now.can c.corner_of-corner.result own).columns_end

pub unwrap-width-requires : goal.unwrap-width-requires
unwrap-width-requires g c =
    let own = subst (IsOwner g.T.TableMarker.table) (sym c.corner_of-corner.ensures) c.requires.owner.owner in
    is_some_answer (rect-width-answer g.T.TableMarker.table c.args.self.now.can _ c.args.self.now.is c.corner_of-corner.result own c.args.self.now.sheet.columns c.args.self.now.shape.columns c.width_of_columns.result c.width_of_columns.ensures)

pub height_of_rows-requires-clause-count : goal.height_of_rows-requires-clause-count
height_of_rows-requires-clause-count g c = c.requires.owner.rows ∙ ap₂ (λ (t : Table) (p : Position). rect_rows t.config.spans p) (sym c.args.self.now.is) (sym c.corner_of-corner.ensures)

pub height_of_rows-requires-clause-some : goal.height_of_rows-requires-clause-some
height_of_rows-requires-clause-some g c =
    let own = subst (IsOwner g.T.TableMarker.table) (sym c.corner_of-corner.ensures) c.requires.owner.owner in
    rw (ap (λ (t : Table). t.config) c.args.self.now.is) (owner_inside g.T.TableMarker.table c.args.self.now.can c.corner_of-corner.result own).some_rows

pub unwrap-height-requires : goal.unwrap-height-requires
unwrap-height-requires g c =
    let own = subst (IsOwner g.T.TableMarker.table) (sym c.corner_of-corner.ensures) c.requires.owner.owner in
    is_some_answer (rect-height-answer g.T.TableMarker.table c.args.self.now.can _ c.args.self.now.is c.corner_of-corner.result own c.height_of_rows.result c.height_of_rows.ensures)

pub invariant_of-result : goal.invariant_of-result
invariant_of-result g c =
    let t = g.T.TableMarker.table in
    let self = c.args.self.now in
    let p = c.corner_of-corner.result in
    let own = subst (IsOwner t) (sym c.corner_of-corner.ensures) c.requires.owner.owner in
    record {
      is = record {
        owner = own;
        width = some_is c.unwrap-width.result (rect_width t p) (sym c.unwrap-width.ensures ∙ rect-width-answer t self.can _ self.is p own self.sheet.columns self.shape.columns c.width_of_columns.result c.width_of_columns.ensures);
        height = some_is c.unwrap-height.result (rect_height t p) (sym c.unwrap-height.ensures ∙ rect-height-answer t self.can _ self.is p own c.height_of_rows.result c.height_of_rows.ensures);
        begun = omega arith;
        above = lines-none t self.can p.row;
      };
    }

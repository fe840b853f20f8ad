use Rattle.std.proofs.Common.{max, arith}
use Rattle.pg_layout.specs.Keys.{by_number, by_place}
use Rattle.pg_layout.specs.Position.{at}
use Rattle.pg_config.specs.Settings.{number_above}
use Rattle.pg_config.proofs.CoveredPlaces.{cells-with_place}
use Rattle.pg_config.proofs.SettingsLaw.{number_kept}
use Rattle.pg_config.proofs.settings.NamedSettings.set.Goals as goal

pub invariant_of-self-in-Row : goal.invariant_of-self-in-Row
invariant_of-self-in-Row g c =
    let made = c.set_next.ensures in
    let kept = number_kept by_number c.in-Row.row c.args.value (max (number_above c.self.inside.cells) (number_above c.self.inside.columns)) c.self.inside.rows c.set_next.new.places (omega (arith, c.self.invariant.0)) c.set_next.result made.places made.next made.same_places made.same_next in
    (omega (arith, kept), c.self.invariant.1)

pub invariant_of-self-in-Column : goal.invariant_of-self-in-Column
invariant_of-self-in-Column g c =
    let made = c.set_next-in-Column.ensures in
    let kept = number_kept by_number c.in-Column.col c.args.value (max (number_above c.self.inside.cells) (number_above c.self.inside.rows)) c.self.inside.columns c.set_next-in-Column.new.places (omega (arith, c.self.invariant.0)) c.set_next-in-Column.result made.places made.next made.same_places made.same_next in
    (omega (arith, kept), c.self.invariant.1)

pub invariant_of-self-in-Cell : goal.invariant_of-self-in-Cell
invariant_of-self-in-Cell g c =
    let made = c.set_next-in-Cell.ensures in
    let kept = number_kept by_place (at c.in-Cell.row c.in-Cell.col) c.args.value (max (number_above c.self.inside.rows) (number_above c.self.inside.columns)) c.self.inside.cells c.set_next-in-Cell.new.places (omega (arith, c.self.invariant.0)) c.set_next-in-Cell.result made.places made.next made.same_places made.same_next in
    (omega (arith, kept), rw (c.in_ok-set_next-in-Cell.ensures.places, c.with_rows-self-inside.ensures) (cells-with_place c.self.inside.extent c.in-Cell.row c.in-Cell.col (c.self.inside.next, c.args.value) c.self.inside.cells c.self.invariant.1))

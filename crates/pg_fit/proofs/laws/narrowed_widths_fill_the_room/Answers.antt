use Rattle.pg_fit.proofs.NarrowedWidths.{fills, within_ranges, even_handed, limits_hold, stay_natural, end_at_least}
use Rattle.pg_fit.proofs.laws.narrowed_widths_fill_the_room.Goals as goal

pub returns-clause-room : goal.returns-clause-room
returns-clause-room c = fills

pub returns-clause-ranges : goal.returns-clause-ranges
returns-clause-ranges c = within_ranges

pub returns-clause-even : goal.returns-clause-even
returns-clause-even c = even_handed

pub returns-clause-limits : goal.returns-clause-limits
returns-clause-limits c = limits_hold

pub returns-clause-natural : goal.returns-clause-natural
returns-clause-natural c = stay_natural

pub returns-clause-least : goal.returns-clause-least
returns-clause-least c = end_at_least

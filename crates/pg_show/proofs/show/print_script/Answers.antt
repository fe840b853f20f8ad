use Rattle.pg_show.proofs.show.print_script.Goals as goal

pub returns-in-Compact-clause-misfit : goal.returns-in-Compact-clause-misfit
returns-in-Compact-clause-misfit g c = rw c.in-Compact.is c.print_compact.ensures.shows.misfit

pub returns-in-Iter-clause-misfit : goal.returns-in-Iter-clause-misfit
returns-in-Iter-clause-misfit g c = rw c.in-Iter.is c.print_streamed.ensures.shows.misfit

pub returns-in-Peek-clause-misfit : goal.returns-in-Peek-clause-misfit
returns-in-Peek-clause-misfit g c = rw c.in-Peek.is c.print_peekable.ensures.shows.misfit

pub returns-in-Table-clause-misfit : goal.returns-in-Table-clause-misfit
returns-in-Table-clause-misfit g c = rw c.in-Table.is c.print_natural.ensures.shows.misfit

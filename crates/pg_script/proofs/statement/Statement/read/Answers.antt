use Rattle.pg_script.proofs.statement.Statement.read.Goals as goal

pub returns-in-borders-clause-fits : goal.returns-in-borders-clause-fits
returns-in-borders-clause-fits g c = c.borders.ensures.fits c.args.size

pub returns-in-halign-clause-fits : goal.returns-in-halign-clause-fits
returns-in-halign-clause-fits g c = c.horizontal_alignment.ensures.fits c.args.size

pub returns-in-valign-clause-fits : goal.returns-in-valign-clause-fits
returns-in-valign-clause-fits g c = c.vertical_alignment.ensures.fits c.args.size

pub returns-in-pad-clause-fits : goal.returns-in-pad-clause-fits
returns-in-pad-clause-fits g c = c.padding.ensures.fits c.args.size

pub returns-in-trim-clause-fits : goal.returns-in-trim-clause-fits
returns-in-trim-clause-fits g c = c.trim.ensures.fits c.args.size

pub returns-in-lines-clause-fits : goal.returns-in-lines-clause-fits
returns-in-lines-clause-fits g c = c.line_alignment.ensures.fits c.args.size

pub returns-in-margin-clause-fits : goal.returns-in-margin-clause-fits
returns-in-margin-clause-fits g c = c.margin.ensures.fits c.args.size

pub returns-in-span-clause-fits : goal.returns-in-span-clause-fits
returns-in-span-clause-fits g c = c.span.ensures.fits c.args.size

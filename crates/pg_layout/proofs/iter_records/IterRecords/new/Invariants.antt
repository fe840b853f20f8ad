use Rattle.pg_layout.proofs.iter_records.IterRecords.new.Given as goal

abbrev pub ghost-new : goal.ghost-new
ghost-new g a = g.texts

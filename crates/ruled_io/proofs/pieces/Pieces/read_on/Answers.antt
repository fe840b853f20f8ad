use Rattle.std.proofs.Common.{map, subst, sym}
use Rattle.std.specs.Prelude.{IfOk}
use Rattle.csv.specs.Records.{fields_of}
use Rattle.ruled_io.specs.Reading.{GivesMore, StandsIn}
use Rattle.ruled_io.specs.declared.reader.Reading.{Reading}
use Rattle.ruled_io.specs.declared.reader.Reading.TheVariants.{Done}
use Rattle.ruled_io.proofs.Tables.{done-gives, reader-gives, table-gives}
use Rattle.ruled_io.proofs.pieces.Pieces.read_on.Goals as goal

pub returns-in-More-clause-given : goal.returns-in-More-clause-given
returns-in-More-clause-given g c = λ origin given stands.
    let before = g.R.Read.remaining c.args.self.now.input in
    let left = g.R.Read.remaining c.read_bytes.new.self.input in
    let old = map fields_of c.args.rows.now.items in
    let new = map fields_of c.read_bytes.new.rows.items in
    subst (λ (r : Reading). IfOk c.read_bytes.result (GivesMore origin left given r old new)) (sym c.in-More.is)
    (reader-gives origin before left given old new c.in-More.reader c.read_bytes.result (subst (λ (r : Reading). StandsIn origin before given r) c.in-More.is stands) (λ format rules all here. c.read_bytes.ensures.given format rules all given here))

pub returns-in-Stored-clause-given : goal.returns-in-Stored-clause-given
returns-in-Stored-clause-given g c = λ origin given stands.
    let left = g.R.Read.remaining c.args.self.now.input in
    let old = map fields_of c.args.rows.now.items in
    let new = map fields_of c.read_stored.new.rows.items in
    subst (λ (r : Reading). GivesMore origin left given r old new c.read_stored.result) (sym c.in-Stored.is)
    (table-gives origin left given old new c.in-Stored.table c.read_stored.result (subst (λ (r : Reading). StandsIn origin left given r) c.in-Stored.is stands) (λ file name null_text here. c.read_stored.ensures file name null_text given here))

pub returns-in-Done-clause-given : goal.returns-in-Done-clause-given
returns-in-Done-clause-given g c = λ origin given stands.
    let left = g.R.Read.remaining c.args.self.now.input in
    let old = map fields_of c.args.rows.now.items in
    let now : Reading = Done c.in-Done.wrong in
    subst (λ (r : Reading). GivesMore origin left given r old old now) (sym c.in-Done.is) (done-gives origin left given old c.in-Done.wrong (subst (λ (r : Reading). StandsIn origin left given r) c.in-Done.is stands))

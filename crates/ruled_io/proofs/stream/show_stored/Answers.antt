use Rattle.std.proofs.Common.{◌≡◌, ◌∙◌, ◌<◌, ◌+◌, ◌-◌, ◌^◌, ◌++◌, ◌∷◌, [], ℕ, List, map, min, refl, sym, ap, subst}
use Rattle.csv.specs.Records.{Row, fields_of}
use Rattle.pg_layout.specs.Text.{Text}
use Rattle.ruled_database.specs.Listings.{HasRead}
use Rattle.ruled_io.specs.Reading.{IsHeld, Origin, of_table}
use Rattle.ruled_io.specs.Stream.{EndsOf, named_count, record_count}
use Rattle.ruled_io.specs.declared.fault.InputFault.TheVariants.{Memory}
use Rattle.ruled_io.specs.declared.fault.RunFault.TheVariants.{Input}
use Rattle.ruled_io.proofs.Inputs.{opened-none, some-more, unread-ends}
use Rattle.ruled_io.proofs.Tables.{read-fails}
use Rattle.ruled_io.proofs.stream.show_stored.Goals as goal

pub returns-in_err-push-in-Ok-clause-ends : goal.returns-in_err-push-in-Ok-clause-ends
returns-in_err-push-in-Ok-clause-ends g c =
    unread-ends c.args.options.now c.args.count c.args.bytes.now c.args.name.now c.args.null.now (g.W.Write.contents c.args.out.now.writer) (Input Memory) c.from_residual.result c.from_residual.ensures.1 refl

pub returns-in_err-reading-in-Ok-clause-ends : goal.returns-in_err-reading-in-Ok-clause-ends
returns-in_err-reading-in-Ok-clause-ends g c =
    let found = c.in_err-reading-in-Ok.field-0.0 in
    unread-ends c.args.options.now c.args.count c.args.bytes.now c.args.name.now c.args.null.now (g.W.Write.contents c.args.out.now.writer) found c.from_residual-in_err-reading-in-Ok.result c.from_residual-in_err-reading-in-Ok.ensures.1
    (read-fails found c.in_err-reading-in-Ok.ensures.failed)

pub returns-in_ok-reading-in-Ok-clause-ends : goal.returns-in_ok-reading-in-Ok-clause-ends
returns-in_ok-reading-in-Ok-clause-ends g c =
    let origin : Origin = of_table c.args.bytes.now c.args.name.now c.args.null.now in
    let old = g.W.Write.contents c.args.out.now.writer in
    let new = g.W.Write.contents c.show_table.new.out.writer in
    let many : c.saturating_add-first.result ≡ named_count c.args.count = c.saturating_add-first.ensures ∙ ap (λ (n : ℕ). min (n + 1) (2 ^ 64 - 1)) c.record_count.ensures in
    let some : 0 < c.saturating_add-first.result = subst (λ (n : ℕ). 0 < n) (sym many) (some-more (record_count c.args.count)) in
    let names : map fields_of c.push.new.self.items ≡ fields_of c.in-Ok.names ∷ [] = ap (map fields_of) (c.in_ok-push-in-Ok.ensures.items ∙ ap (λ (rows : List Row). rows ++ c.in-Ok.names ∷ []) c.new-rows.ensures.items) in
    let read = subst (λ (rows : List (List Text)). HasRead c.args.bytes.now c.args.name.now c.args.null.now rows c.in-Ok.table) (sym names) c.in-Ok.ensures.rows in
    let ends = c.show_table.ensures.ends origin some c.in_ok-reading-in-Ok.ensures.enough (c.in_ok-reading-in-Ok.ensures.given origin read) in
    subst (λ (n : ℕ). EndsOf c.args.options.now n (IsHeld origin) old new c.show_table.result) many ends

pub returns-in-Err-clause-ends : goal.returns-in-Err-clause-ends
returns-in-Err-clause-ends g c =
    opened-none c.args.options.now c.args.count c.args.bytes.now c.args.name.now c.args.null.now (g.W.Write.contents c.args.out.now.writer) c.in-Err.fault c.into.result c.into.ensures c.in-Err.ensures.fault

use Rattle.std.proofs.Common.{◌≡◌, ◌∙◌, ℕ, List, [], ap, arith, eqb-true, length, map, subst, sym, take}
use Rattle.std.proofs.lemmas.List.{nil_from_length}
use Rattle.csv.specs.Records.{fields_of}
use Rattle.ruled_json.specs.Faults.{but_line, line_rows_fault}
use Rattle.ruled_json.specs.Streamed.{AppendsRest, HasLines, LineRules, ended_table, first_fault_behind, streamed_table}
use Rattle.ruled_json.specs.Rows.{line_rows_of, records_on, rules_of}
use Rattle.ruled_json.proofs.StreamedLines.{all-texts, bad-at, next-lines, next-rows, texts, whole-fault, whole-rows, all-right}
use Rattle.ruled_json.proofs.Tables.{no-table}
use Rattle.ruled_json.proofs.Views.{handed_on}
use Rattle.ruled_json.proofs.line_table.read_line_rows.Goals as goal

pub returns-then-is_empty-clause-rows : goal.returns-then-is_empty-clause-rows
unfolding line_rows_of
returns-then-is_empty-clause-rows c =
    ap (map fields_of) c.new.ensures.items ∙ sym (ap (line_rows_of (rules_of c.args.rules.now)) (nil_from_length c.args.bytes.now (eqb-true _ 0 (sym c.is_empty.ensures ∙ c.if-is_empty.true))))

pub returns-then-is_empty-clause-fault : goal.returns-then-is_empty-clause-fault
unfolding line_rows_fault
returns-then-is_empty-clause-fault c = ap line_rows_fault (nil_from_length c.args.bytes.now (eqb-true _ 0 (sym c.is_empty.ensures ∙ c.if-is_empty.true)))

pub loop-line-init : goal.loop-line-init
loop-line-init c = (c.in_ok-table.ensures, ap (map fields_of) c.new-rows.ensures.items ∙ sym (no-table (record { records = c.len-count.result; members = rules_of c.args.rules.now })))

pub loop-line-preserved : goal.loop-line-preserved
loop-line-preserved c =
    let k : LineRules = record { records = c.len-count.result; members = rules_of c.args.rules.now } in
    let lines = c.deref-line-items.result.now in
    let i = c.loop-line.line-index in
    let above = texts (take i lines) in
    let has = c.loop-line.invariant.0 in (
      subst (λ (ls : List (List ℕ)). HasLines k ls c.read.new.self) (sym (next-lines lines i _ (omega arith))) (c.in_ok-read.ensures.read k above has),
      next-rows k lines i _ (map fields_of c.loop-line.rows.items) (map fields_of c.read.new.rows.items) (omega arith) c.loop-line.invariant.1 (c.in_ok-read.ensures.rows k above has),
    )

pub returns-in_err-read-clause-fault : goal.returns-in_err-read-clause-fault
returns-in_err-read-clause-fault c =
    let k : LineRules = record { records = c.len-count.result; members = rules_of c.args.rules.now } in
    let lines = c.deref-line-items.result.now in
    let i = c.loop-line.line-index in
    let fault = c.in_err-read.field-0.0 in
    let has = c.loop-line.invariant.0 in
    let count : k.records ≡ length lines = omega (arith, c.len-count.ensures, c.in_ok-lines.lines.ok.0, ap length c.deref-line-items.ensures.value) in
    handed_on (line_rows_fault c.args.bytes.now) fault c.from_residual-in_err-read.result
    (λ counts.
    whole-fault k lines c.args.bytes.now count (ap texts c.deref-line-items.ensures.value ∙ c.in_ok-lines.ensures)
    ∙ bad-at k lines i _ c.loop-line.table (but_line fault) (omega arith) has (c.in_err-read.ensures.fault k (texts (take i lines)) has counts))
    c.from_residual-in_err-read.ensures.1

pub returns-clause-rows : goal.returns-clause-rows
returns-clause-rows c =
    let k : LineRules = record { records = c.len-count.result; members = rules_of c.args.rules.now } in
    let lines = c.deref-line-items.result.now in
    let i = c.loop-line.line-index in
    let old = map fields_of c.loop-line.rows.items in
    let rows = map fields_of c.finish.new.rows.items in
    let all = all-texts lines i (omega arith) in
    let count : k.records ≡ length lines = omega (arith, c.len-count.ensures, c.in_ok-lines.lines.ok.0, ap length c.deref-line-items.ensures.value) in
    let is : old ≡ ended_table k (records_on k.members (texts lines)) = c.loop-line.invariant.1 ∙ ap (λ (ls : List (List ℕ)). ended_table k (records_on k.members ls)) all in
    let rest : AppendsRest (ended_table k (records_on k.members (texts lines))) (streamed_table k (records_on k.members (texts lines))) old rows =
    subst (λ (ls : List (List ℕ)). AppendsRest (ended_table k (records_on k.members ls)) (streamed_table k (records_on k.members ls)) old rows) all
    (c.in_ok-finish.ensures.rest k (records_on k.members (texts (take i lines))) c.loop-line.invariant.0.has) in
    whole-rows k lines c.args.bytes.now old rows count (ap texts c.deref-line-items.ensures.value ∙ c.in_ok-lines.ensures) is rest

pub returns-clause-fault : goal.returns-clause-fault
returns-clause-fault c =
    let k : LineRules = record { records = c.len-count.result; members = rules_of c.args.rules.now } in
    let lines = c.deref-line-items.result.now in
    let i = c.loop-line.line-index in
    let count : k.records ≡ length lines = omega (arith, c.len-count.ensures, c.in_ok-lines.lines.ok.0, ap length c.deref-line-items.ensures.value) in
    whole-fault k lines c.args.bytes.now count (ap texts c.deref-line-items.ensures.value ∙ c.in_ok-lines.ensures)
    ∙ ap (first_fault_behind k []) (sym (all-texts lines i (omega arith))) ∙ all-right k (texts (take i lines)) c.loop-line.table c.loop-line.invariant.0

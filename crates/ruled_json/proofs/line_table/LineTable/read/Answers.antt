use Rattle.std.proofs.Common.{Bool, ◌≡◌, ◌∙◌, ◌∷◌, ◌++◌, [], None, Some, ap, map, option_map, refl, sym}
use Rattle.csv.specs.Records.{fields_of}
use Rattle.json.specs.Value.{value_view}
use Rattle.ruled_json.specs.Rows.{record_on, records_on, shown_record, value_on}
use Rattle.ruled_json.proofs.StreamedLines.{taken-fault, taken-read, taken-rows, blank-sound, lines-more, no-rows, same-records, without-record}
use Rattle.ruled_json.proofs.line_table.LineTable.read.Goals as goal

pub returns-then-self-clause-read : goal.returns-then-self-clause-read
returns-then-self-clause-read c = λ k above has.
    taken-read k above c.args.line.now c.args.self.now has c.in-Ok-Some.ensures.fault (value_view c.in-Ok-Some.value) (value_view c.in_ok-flat-in-Ok-Some.flat)
    (ap (option_map value_view) (sym c.in-Ok-Some.field-0-is) ∙ c.in-Ok-Some.ensures.value) (c.in_ok-flat-in-Ok-Some.ensures ∙ sym (ap (λ (b : Bool). shown_record b (value_view c.in-Ok-Some.value)) c.if-self.true))
    c.take.result c.take.new.self c.take.ensures.kept.1 (c.take.ensures.kept.0 ∙ c.line_after-self.ensures)
    (c.take.ensures.fault k (records_on k.members above) (same-records k (records_on k.members above) c.args.self.now _ has.has refl refl refl refl))
    (c.take.ensures.read k (records_on k.members above) (same-records k (records_on k.members above) c.args.self.now _ has.has refl refl refl refl))

pub returns-then-self-clause-rows : goal.returns-then-self-clause-rows
returns-then-self-clause-rows c = λ k above has.
    taken-rows k above c.args.line.now c.args.self.now has c.in-Ok-Some.ensures.fault (value_view c.in-Ok-Some.value) (value_view c.in_ok-flat-in-Ok-Some.flat)
    (ap (option_map value_view) (sym c.in-Ok-Some.field-0-is) ∙ c.in-Ok-Some.ensures.value) (c.in_ok-flat-in-Ok-Some.ensures ∙ sym (ap (λ (b : Bool). shown_record b (value_view c.in-Ok-Some.value)) c.if-self.true))
    c.take.result (map fields_of c.args.rows.now.items) (map fields_of c.take.new.rows.items)
    (c.take.ensures.rows k (records_on k.members above) (same-records k (records_on k.members above) c.args.self.now _ has.has refl refl refl refl))

pub returns-then-self-clause-fault : goal.returns-then-self-clause-fault
returns-then-self-clause-fault c = λ k above has.
    taken-fault k above c.args.line.now c.args.self.now has c.in-Ok-Some.ensures.fault (value_view c.in-Ok-Some.value) (value_view c.in_ok-flat-in-Ok-Some.flat)
    (ap (option_map value_view) (sym c.in-Ok-Some.field-0-is) ∙ c.in-Ok-Some.ensures.value) (c.in_ok-flat-in-Ok-Some.ensures ∙ sym (ap (λ (b : Bool). shown_record b (value_view c.in-Ok-Some.value)) c.if-self.true))
    c.take.result (c.take.ensures.fault k (records_on k.members above) (same-records k (records_on k.members above) c.args.self.now _ has.has refl refl refl refl))

pub returns-else-self-clause-read : goal.returns-else-self-clause-read
returns-else-self-clause-read c = λ k above has.
    taken-read k above c.args.line.now c.args.self.now has c.in-Ok-Some.ensures.fault (value_view c.in-Ok-Some.value) (value_view c.in-Ok-Some.value)
    (ap (option_map value_view) (sym c.in-Ok-Some.field-0-is) ∙ c.in-Ok-Some.ensures.value) (sym (ap (λ (b : Bool). shown_record b (value_view c.in-Ok-Some.value)) c.if-self.false))
    c.take-in-Ok-Some.result c.take-in-Ok-Some.new.self c.take-in-Ok-Some.ensures.kept.1 (c.take-in-Ok-Some.ensures.kept.0 ∙ c.line_after-self.ensures)
    (c.take-in-Ok-Some.ensures.fault k (records_on k.members above) (same-records k (records_on k.members above) c.args.self.now _ has.has refl refl refl refl))
    (c.take-in-Ok-Some.ensures.read k (records_on k.members above) (same-records k (records_on k.members above) c.args.self.now _ has.has refl refl refl refl))

pub returns-else-self-clause-rows : goal.returns-else-self-clause-rows
returns-else-self-clause-rows c = λ k above has.
    taken-rows k above c.args.line.now c.args.self.now has c.in-Ok-Some.ensures.fault (value_view c.in-Ok-Some.value) (value_view c.in-Ok-Some.value)
    (ap (option_map value_view) (sym c.in-Ok-Some.field-0-is) ∙ c.in-Ok-Some.ensures.value) (sym (ap (λ (b : Bool). shown_record b (value_view c.in-Ok-Some.value)) c.if-self.false))
    c.take-in-Ok-Some.result (map fields_of c.args.rows.now.items) (map fields_of c.take-in-Ok-Some.new.rows.items)
    (c.take-in-Ok-Some.ensures.rows k (records_on k.members above) (same-records k (records_on k.members above) c.args.self.now _ has.has refl refl refl refl))

pub returns-else-self-clause-fault : goal.returns-else-self-clause-fault
returns-else-self-clause-fault c = λ k above has.
    taken-fault k above c.args.line.now c.args.self.now has c.in-Ok-Some.ensures.fault (value_view c.in-Ok-Some.value) (value_view c.in-Ok-Some.value)
    (ap (option_map value_view) (sym c.in-Ok-Some.field-0-is) ∙ c.in-Ok-Some.ensures.value) (sym (ap (λ (b : Bool). shown_record b (value_view c.in-Ok-Some.value)) c.if-self.false))
    c.take-in-Ok-Some.result (c.take-in-Ok-Some.ensures.fault k (records_on k.members above) (same-records k (records_on k.members above) c.args.self.now _ has.has refl refl refl refl))

pub returns-in-Ok-None-clause-read : goal.returns-in-Ok-None-clause-read
returns-in-Ok-None-clause-read c = λ k above has.
    let t = c.args.self.now in
    let line = c.args.line.now in
    let blank : None ≡ value_on line = ap (option_map value_view) (sym c.in-Ok-None.field-0-is) ∙ c.in-Ok-None.ensures.value in
    let is : None ≡ record_on k.members line = ap (option_map (shown_record k.members.is_flat)) blank in
    lines-more k above line t _ has (blank-sound k t.number above line has.number c.in-Ok-None.ensures.fault is) (without-record k above line t _ is has.has refl refl refl refl)
    refl c.line_after-self.ensures

pub returns-in-Ok-None-clause-rows : goal.returns-in-Ok-None-clause-rows
returns-in-Ok-None-clause-rows c = λ k above has.
    let line = c.args.line.now in
    let blank : None ≡ value_on line = ap (option_map value_view) (sym c.in-Ok-None.field-0-is) ∙ c.in-Ok-None.ensures.value in
    let is : None ≡ record_on k.members line = ap (option_map (shown_record k.members.is_flat)) blank in
    no-rows k above line (map fields_of c.args.rows.now.items) is

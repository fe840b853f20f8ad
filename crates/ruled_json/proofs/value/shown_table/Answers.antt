use Rattle.std.proofs.Common.{◌≡◌, ◌∙◌, Global, List, ℕ, ap, map, string_bytes, subst, sym}
use Rattle.std.specs.Prelude.{IfOk}
use Rattle.csv.specs.Records.{fields_of}
use Rattle.json.specs.Value.{value_view}
use Rattle.json.specs.declared.value.Value.{Value}
use Rattle.ruled_json.proofs.Flat.{all_flat_numbers, flat_list, same_list}
use Rattle.ruled_json.specs.Rows.{table_of}
use Rattle.ruled_json.proofs.value.shown_table.Goals as goal

pub table_of-requires : goal.table_of-requires
table_of-requires c = record {
  numbers = all_flat_numbers (map value_view c.args.records.now) (map value_view c.deref.result.now) c.requires.numbers (ap (map value_view) c.deref.ensures.value ∙ c.in_ok-flat.ensures);
}

pub returns-then-rules : goal.returns-then-rules
returns-then-rules c =
    let rules = c.args.rules.now in
    let values = map value_view c.args.records.now in
    let flat = c.in_ok-flat.ensures ∙ sym (flat_list rules.is_flat values c.if-rules.true) in
    subst (λ (all : List (List (List ℕ))). IfOk c.table_of.result (λ rows. map fields_of rows.items ≡ all))
    (ap (λ (word : List ℕ). table_of word (map value_view c.deref.result.now)) c.as_str-null.ensures.value
    ∙ ap (λ (vs : List (Value Global)). table_of (string_bytes rules.null) (map value_view vs)) c.deref.ensures.value ∙ ap (table_of (string_bytes rules.null)) flat)
    c.table_of.ensures

pub returns : goal.returns
returns c =
    let rules = c.args.rules.now in
    let values = map value_view c.args.records.now in
    subst (λ (all : List (List (List ℕ))). IfOk c.table_of-2.result (λ rows. map fields_of rows.items ≡ all))
    (ap (λ (word : List ℕ). table_of word values) c.as_str-null.ensures.value ∙ ap (table_of (string_bytes rules.null)) (sym (same_list rules.is_flat values c.if-rules.false))) c.table_of-2.ensures

use Rattle.std.proofs.Common.{◌≡◌, ◌∙◌, [], List, Bool, map, slice_index_or, ap, sym, rules}
use Rattle.std.specs.List.{list_all}
use Rattle.std.proofs.lemmas.List.Folds.{list_all-map}
use Rattle.std.proofs.lemmas.Result.{IfOk-weaker}
use Rattle.csv.specs.Records.{Row, fields_of}
use Rattle.ruled_table.specs.Order.{in_order, is_before, sorted_by}
use Rattle.pg_layout.specs.Text.{Text}
use Rattle.ruled_table.specs.Sides.{is_numeric, is_numeric_text}
use Rattle.ruled_table.specs.declared.order.RankedRow.{RankedRow}
use Rattle.ruled_table.proofs.WordsOfColumns.{ranked-sorted}
use Rattle.ruled_table.proofs.order.in_order.Goals as goal

pub returns : goal.returns
returns c =
    let options = c.args.options.now in
    let rows : List (List Text) = map fields_of c.args.rows.items in
    let at : c.have_numbers-is_numeric.result ≡ list_all (λ (fields : Row). is_numeric_text options (slice_index_or (fields_of fields) c.args.column [])) c.args.rows.items = search rules in
    let numeric : c.have_numbers-is_numeric.result ≡ is_numeric options rows c.args.column =
    at ∙ sym (list_all-map (λ (row : List Text). is_numeric_text options (slice_index_or row c.args.column [])) fields_of c.args.rows.items) in
    IfOk-weaker c.unranked.result (λ made. made.items ≡ map (λ (row : RankedRow). row.fields) c.sort_ranked.new.rows.items)
    (λ ordered. map fields_of ordered.items ≡ in_order options c.args.is_descending c.args.column rows)
    (λ made is.
    ap (map fields_of) is
    ∙ ranked-sorted options c.args.is_descending c.have_numbers-is_numeric.result c.args.column rows c.in_ok-ranked.ranked.items c.sort_ranked.new.rows.items c.in_ok-ranked.ensures c.in_ok-sort_ranked.ensures
    ∙ ap (λ (n : Bool). sorted_by (is_before options c.args.is_descending n c.args.column) rows) numeric)
    c.unranked.ensures

use Rattle.std.proofs.Common.{◌≡◌, ◌∙◌, ◌++◌, List, drop, map, take, true, false, ap, ap₂, sym, rules}
use Rattle.std.proofs.lemmas.List.{drop-map, map-append, take-map}
use Rattle.csv.specs.Records.{Row, fields_of}
use Rattle.ruled_table.specs.Order.{in_order}
use Rattle.pg_layout.specs.Text.{Text}
use Rattle.ruled_table.proofs.order.sorted.Goals as goal

pub returns-then-not-options : goal.returns-then-not-options
returns-then-not-options c =
    let off : c.args.options.now.has_header ≡ false = search rules in
    rw off c.in_order.ensures

pub returns : goal.returns
returns c =
    let rows : List Row = c.args.rows.items in
    let options = c.args.options.now in
    let on : c.args.options.now.has_header ≡ true = search rules in
    let items : c.append.new.self.items ≡ take 1 rows ++ c.in_ok-ordered.ordered.items =
    c.in_ok-append.ensures.items ∙ ap (λ (xs : List Row). xs ++ c.in_ok-ordered.ordered.items) c.in_ok-below.ensures.items in
    let below : map fields_of c.in_ok-below.below.items ≡ drop 1 (map fields_of rows) = ap (map fields_of) c.in_ok-below.ensures.tail ∙ sym (drop-map fields_of 1 rows) in
    rw on (
    ap (map fields_of) items ∙ map-append fields_of (take 1 rows) c.in_ok-ordered.ordered.items
    ∙ ap₂ (λ (xs ys : List (List Text)). xs ++ ys) (sym (take-map fields_of 1 rows)) (c.in_ok-ordered.ensures ∙ ap (in_order options c.args.is_descending c.args.column) below)
    )

use Rattle.std.proofs.Common.{List, ℕ, Option, IfSome, subst, ap, ◌∙◌}
use Rattle.std.specs.Borrow.{Bor}
use Rattle.pg_picture.specs.Pieces.{separator_text}
use Rattle.pg_picture.proofs.Separators.{equal_separators, equal_when}
use Rattle.pg_picture.proofs.Appending.{Appends-text, text-from}
use Rattle.pg_peekable.specs.Inside.{IsSeparator}
use Rattle.pg_peekable.proofs.looked_up_table.LookedUpTable.push_inner_separator.Goals as goal

pub keep_separator-requires : goal.keep_separator-requires
keep_separator-requires g c =
    let t = g.T.TableMarker.table in
    let equal = equal_when t.config c.has_equal_separators.ensures c.if-has_equal_separators.true in
    let here = text-from c.len-from.result (c.len-from.ensures ∙ c.args.buf.now.bytes.ok.0) c.in_ok-push_new_separator.ensures in
    record { text = λ r inner. here ∙ ap separator_text (equal_separators t equal.0 equal.1 c.args.separator.now.row r (record { some = c.requires.inner.some; less = c.requires.inner.row }) (record { some = inner.some; less = inner.row })) }

pub returns-in-Some : goal.returns-in-Some
returns-in-Some g c =
    let t = g.T.TableMarker.table in
    let all = subst (λ (lent : Option (Bor (List ℕ))). IfSome lent (λ text. IsSeparator t text.now)) c.in-Some.is c.separator.ensures in
    Appends-text (all c.args.separator.now.row c.requires.inner) c.push_text.ensures

use Rattle.std.proofs.Common.{◌≡◌, ◌∙◌, ◌-◌, ℕ, ap, arith, length, map}
use Rattle.std.specs.List.{range_with_len}
use Rattle.pg_layout.specs.declared.position.Position.{Position}
use Rattle.pg_layout.specs.Position.{at}
use Rattle.pg_layout.specs.Records.{text_at}
use Rattle.pg_layout.specs.Text.{greatest}
use Rattle.pg_table.specs.Numbers.{own_extent}
use Rattle.pg_table.specs.declared.numbers.Extent.{Extent}
use Rattle.pg_table.proofs.Setters.{rest-more}
use Rattle.pg_table.proofs.table.settings.longest_rest.Goals as goal

pub loop-row-preserved : goal.loop-row-preserved
loop-row-preserved g c =
    let texts = g.R.Records.texts c.args.records.now in
    let here : c.own_extent-extent.result.rest ≡ (own_extent (text_at texts (at c.loop-row.row c.args.column))).rest =
    ap (λ (e : Extent). e.rest) (c.own_extent-extent.ensures ∙ ap own_extent (c.get_text.ensures ∙ ap (λ (p : Position). text_at texts p) c.new.ensures)) in
    record {
      longest = omega (arith, here, c.max-longest.ensures, rest-more texts c.args.from c.args.column c.loop-row.row c.loop-row.longest c.loop-row.auto.row c.loop-row.invariant.longest);
      bound = omega arith;
    }

pub returns : goal.returns
returns g c =
    let texts = g.R.Records.texts c.args.records.now in
    let all : c.loop-row.row - c.args.from ≡ length texts - c.args.from = omega (arith, c.loop-row-test.false, c.count_rows-row-end.ensures) in
    c.loop-row.invariant.longest ∙ ap (λ n. greatest (map (λ r. (own_extent (text_at texts (at r c.args.column))).rest) (range_with_len c.args.from n))) all

use Rattle.std.proofs.Common.{◌==◌, ◌&&◌, ◌+◌, ap, nat_lt, sym, ◌∙◌}
use Rattle.pg_layout.specs.Terminal.{color_texts}
use Rattle.pg_config.specs.Config.{Config}
use Rattle.pg_table.specs.Coloring.{is_cell_striped, with_stripe}
use Rattle.pg_table.proofs.Setters.{colored-more, rows-more}
use Rattle.pg_table.proofs.Rearranged.{one_run_more}
use Rattle.pg_table.proofs.table.Table.lay_stripes.Goals as goal

pub loop-row-preserved : goal.loop-row-preserved
loop-row-preserved g c =
    let stripe = with_stripe c.args.first c.args.step (color_texts c.args.color) in
    record {
      config = c.in_ok-lay_stripe.ensures.config
          ∙ ap (λ (config : Config). stripe config c.loop-row.row) c.loop-row.invariant.config
          ∙ sym (one_run_more stripe c.args.self.now.config c.loop-row.row);
      colors = colored-more (color_texts c.args.color)
          (λ p. nat_lt p.row c.loop-row.row && is_cell_striped c.args.first c.args.step c.args.self.now.rows p)
          (λ p. (p.row == c.loop-row.row) && is_cell_striped c.args.first c.args.step c.args.self.now.rows p)
          (λ p. nat_lt p.row (c.loop-row.row + 1) && is_cell_striped c.args.first c.args.step c.args.self.now.rows p)
          _ _ _ (λ p. rows-more c.loop-row.row (is_cell_striped c.args.first c.args.step c.args.self.now.rows p) p)
          c.loop-row.invariant.colors (rw c.loop-row.invariant.rows at c.in_ok-lay_stripe.ensures.colors);
      rows = c.lay_stripe.ensures.rows ∙ c.loop-row.invariant.rows;
    }

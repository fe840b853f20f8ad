use Rattle.std.proofs.Common.{◌≡◌, length, subst, sym}
use Rattle.std.specs.List.{range_with_len}
use Rattle.pg_config.specs.Config.{Config}
use Rattle.pg_layout.specs.Terminal.{color_texts}
use Rattle.pg_table.specs.Coloring.{AreColored, is_cell_striped, with_stripes}
use Rattle.pg_table.specs.Even.{IsNarrowLook}
use Rattle.pg_table.proofs.Setters.{left, set, stripes-narrow, weaker}
use Rattle.pg_table.proofs.table.Table.with_stripes.Goals as goal

pub returns-clause-config : goal.returns-clause-config
returns-clause-config g c = set c.lay_stripes-set.result c.if_set.result c.lay_stripes-set.new.self (λ t. t.config ≡ with_stripes c.args.first c.args.step (color_texts c.args.color) (length c.args.self.rows) c.args.self.config) c.if_set.ensures.set c.lay_stripes-set.ensures.config c.if_set.ensures.same

pub returns-clause-colors : goal.returns-clause-colors
returns-clause-colors g c = set c.lay_stripes-set.result c.if_set.result c.lay_stripes-set.new.self (λ t. AreColored (is_cell_striped c.args.first c.args.step c.args.self.rows) (color_texts c.args.color) c.args.self.colors t.colors) c.if_set.ensures.set c.lay_stripes-set.ensures.colors c.if_set.ensures.same

pub returns-clause-rows : goal.returns-clause-rows
returns-clause-rows g c = left c.if_set.result c.lay_stripes-set.new.self (λ t. t.rows ≡ c.args.self.rows) c.lay_stripes-set.ensures.rows c.if_set.ensures.same

pub returns-clause-narrow : goal.returns-clause-narrow
returns-clause-narrow g c = λ look.
    set c.lay_stripes-set.result c.if_set.result c.lay_stripes-set.new.self (λ t. IsNarrowLook t.config) c.if_set.ensures.set
    (weaker c.lay_stripes-set.result (λ is. subst (λ (config : Config). IsNarrowLook config) (sym is) (stripes-narrow c.args.first c.args.step (color_texts c.args.color) (range_with_len 0 (length c.args.self.rows)) c.args.self.config look)) c.lay_stripes-set.ensures.config) c.if_set.ensures.same

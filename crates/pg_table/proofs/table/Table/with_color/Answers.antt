use Rattle.std.proofs.Common.{◌≡◌, ap, subst, sym}
use Rattle.pg_config.specs.Config.{Config}
use Rattle.pg_layout.specs.Terminal.{color_texts}
use Rattle.pg_table.specs.Coloring.{AreColored, is_cell_of}
use Rattle.pg_table.specs.Even.{IsNarrowLook}
use Rattle.pg_table.proofs.Setters.{left, set}
use Rattle.pg_table.proofs.table.Table.with_color.Goals as goal

pub returns-clause-colors : goal.returns-clause-colors
returns-clause-colors g c = set c.color_cells-set.result c.if_set.result c.color_cells-set.new.self (λ t. AreColored (is_cell_of c.args.entity c.args.self.rows) (color_texts c.args.color) c.args.self.colors t.colors) c.if_set.ensures.set c.color_cells-set.ensures.colors c.if_set.ensures.same

pub returns-clause-others : goal.returns-clause-others
returns-clause-others g c = left c.if_set.result c.color_cells-set.new.self (λ t. t ≡ record c.args.self { colors = t.colors }) c.color_cells-set.ensures.others c.if_set.ensures.same

pub returns-clause-narrow : goal.returns-clause-narrow
returns-clause-narrow g c = λ look.
    left c.if_set.result c.color_cells-set.new.self (λ t. IsNarrowLook t.config) (subst (λ (config : Config). IsNarrowLook config) (sym (ap (λ t. t.config) c.color_cells-set.ensures.others)) look) c.if_set.ensures.same

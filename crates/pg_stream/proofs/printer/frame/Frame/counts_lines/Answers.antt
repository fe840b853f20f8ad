use Rattle.std.proofs.Common.{ℕ, ◌+◌, ◌≤◌, arith, inl, inr}
use Rattle.std.proofs.lemmas.Bool.{cases_Bool}
use Rattle.std.proofs.lemmas.Bool.Decides.{nat_tests}
use Rattle.pg_config.specs.Config.{Config, has_horizontal}
use Rattle.pg_stream.specs.Inside.{separator_height}
use Rattle.pg_stream.proofs.DrawnLines.{length_of_row}
use Rattle.pg_stream.proofs.printer.frame.Frame.counts_lines.Goals as goal

-- a separator has one line
one_line : (config : Config) (k : ℕ) → separator_height config k ≤ 1
unfolding separator_height
one_line config k =
    elim (cases_Bool (has_horizontal config k (k + 1))) [
      | inl e ↦ rw e (omega arith)
      | inr e ↦ rw e (omega arith)
    ]

pub returns-then-next-lt18446744073709551615 : goal.returns-then-next-lt18446744073709551615
returns-then-next-lt18446744073709551615 g c =
    let lines = length_of_row c.args.self.now.sheet.config.now (g.D.Dimension.height c.args.self.now.sheet.dimension.now) c.args.row in
    let one = one_line c.args.self.now.sheet.config.now c.args.row in
    grind (arith, nat_tests, lines, one, c.in-Some.ensures.1, c.get_height-height.ensures, c.if-next-lt18446744073709551615.true)

pub returns-else-next-lt18446744073709551615 : goal.returns-else-next-lt18446744073709551615
returns-else-next-lt18446744073709551615 g c =
    let lines = length_of_row c.args.self.now.sheet.config.now (g.D.Dimension.height c.args.self.now.sheet.dimension.now) c.args.row in
    let one = one_line c.args.self.now.sheet.config.now c.args.row in
    grind (arith, nat_tests, lines, one, c.separator_lines.ensures, c.in-Some.ensures.1, c.get_height-height.ensures, c.if-next-lt18446744073709551615.false)

pub returns-in-None : goal.returns-in-None
returns-in-None g c =
    let lines = length_of_row c.args.self.now.sheet.config.now (g.D.Dimension.height c.args.self.now.sheet.dimension.now) c.args.row in
    grind (arith, nat_tests, lines, c.in-None.ensures, c.get_height-height.ensures)

use Rattle.std.proofs.Common.{◌≡◌, ◌+◌, ◌<◌, ◌≤◌, ℕ, List, below_more, get_or, ap, arith}
use Rattle.pg_config.specs.Config.{Config}
use Rattle.ruled_table.specs.Layouts.{line_of}
use Rattle.ruled_table.proofs.LentTexts.{fitting-is, line-more}
use Rattle.ruled_table.proofs.omission.fitting.Goals as goal

pub loop-shown-preserved : goal.loop-shown-preserved
loop-shown-preserved c =
    let config : Config = c.args.config.now in
    let widths : List ℕ = c.args.widths.now in
    let shown : ℕ = c.loop-shown.shown in
    let same = ap (λ (k : ℕ). get_or widths k 0) c.turn.ensures.same in
    let more = line-more widths shown in
    let line : line_of config widths c.args.signs (shown + 1) ≤ c.args.total = omega (arith, more, same, c.loop-shown.invariant.sum, c.count_vertical-beside.ensures, c.saturating_add.ensures) in
    record {
      sum = omega (arith, more, same, c.loop-shown.invariant.sum);
      within = omega (arith, c.saturating_add.ensures);
      fit = below_more _ _ c.loop-shown.invariant.fit line;
    }

pub returns-then-saturating_add-total : goal.returns-then-saturating_add-total
returns-then-saturating_add-total c =
    let config : Config = c.args.config.now in
    let widths : List ℕ = c.args.widths.now in
    let shown : ℕ = c.loop-shown.shown in
    let same = ap (λ (k : ℕ). get_or widths k 0) c.turn.ensures.same in
    let line : c.args.total < line_of config widths c.args.signs (shown + 1) = omega (arith, line-more widths shown, same, c.loop-shown.invariant.sum, c.count_vertical-beside.ensures, c.saturating_add.ensures) in
    fitting-is config widths c.args.total c.args.signs c.args.most shown (omega arith) c.loop-shown.invariant.fit (λ more. line)

pub returns : goal.returns
returns c =
    let all : c.loop-shown.shown ≡ c.args.most = omega (arith, c.loop-shown-test.false, c.loop-shown.auto.shown-end) in
    fitting-is c.args.config.now c.args.widths.now c.args.total c.args.signs c.args.most c.args.most (omega arith) (rw all at c.loop-shown.invariant.fit) (λ more. absurd (omega (arith, more)))

use Rattle.std.proofs.Common.{◌∙◌, ◌*◌, sym, ap, take, arith}
use Rattle.std.specs.List.{list_all}
use Rattle.pg_layout.proofs.PlainBytes.{all_by_last, all_of_chunk, all_of_more, false_where_part_is}
use Rattle.pg_fit.specs.Controls.{is_printable}
use Rattle.pg_fit.proofs.controls.has_printable_blocks.Goals as goal

pub loop-block-preserved : goal.loop-block-preserved
loop-block-preserved c =
    ap (λ k. list_all is_printable (take k c.args.bytes.now)) (omega arith)
    ∙ all_of_more is_printable (16 * c.loop-block.block) 16 c.args.bytes.now c.loop-block.invariant (sym c.is_block_printable.ensures ∙ c.if-not-is_block_printable.false)

pub returns : goal.returns
returns c = c.is_block_printable-2.ensures ∙ all_by_last is_printable (16 * c.loop-block.block) 16 c.args.bytes.now c.requires (omega (arith, c.loop-block-test.false)) c.loop-block.invariant

pub returns-then-not-is_block_printable : goal.returns-then-not-is_block_printable
returns-then-not-is_block_printable c =
    false_where_part_is _ _ (all_of_chunk is_printable (16 * c.loop-block.block) 16 c.args.bytes.now) (sym c.is_block_printable.ensures ∙ c.if-not-is_block_printable.true)

use Rattle.std.proofs.Common.{◌≤◌, length, sym, ◌∙◌, arith}
use Rattle.octets.proofs.Parts.{empty_is}
use Rattle.device.specs.Blocks.{whole}
use Rattle.device.proofs.Whole.{nth_past, nth_whole, block_inside}
use Rattle.device.proofs.blocks.at.Goals as goal

pub returns-then-block-count-clause-value : goal.returns-then-block-count-clause-value
returns-then-block-count-clause-value c =
    let h : length (whole c.args.disk.now) ≤ c.args.block = omega (arith, c.count.ensures.value) in
    empty_is ∙ sym (nth_past (whole c.args.disk.now) c.args.block h)

pub block_at-requires : goal.block_at-requires
block_at-requires c = block_inside c.args.disk.now c.args.block (omega (arith, c.count.ensures.value))

pub returns-clause-value : goal.returns-clause-value
returns-clause-value c = c.block_at.ensures.value ∙ sym (nth_whole c.args.disk.now c.args.block (omega (arith, c.count.ensures.value)))

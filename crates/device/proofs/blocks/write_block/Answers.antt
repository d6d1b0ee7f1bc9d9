use Rattle.std.proofs.Common.{◌≤◌, length, sym, arith, rules}
use Rattle.device.specs.Blocks.{whole}
use Rattle.device.proofs.Whole.{set_past, whole_written, block_inside}
use Rattle.device.proofs.blocks.write_block.Goals as goal

pub put_block-requires : goal.put_block-requires
put_block-requires c = block_inside c.args.disk.now c.args.block (omega (arith, c.count.ensures.value))

pub returns-then-block-count : goal.returns-then-block-count
returns-then-block-count c =
    whole_written c.args.disk.now _ c.args.bytes.now c.args.block (search rules) (omega (arith, c.count.ensures.value)) c.put_block.ensures

pub returns-else-block-count : goal.returns-else-block-count
returns-else-block-count c =
    let h : length (whole c.args.disk.now) ≤ c.args.block = omega (arith, c.count.ensures.value) in
    sym (set_past (whole c.args.disk.now) c.args.block c.args.bytes.now h)

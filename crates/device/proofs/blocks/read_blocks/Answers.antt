use Rattle.std.proofs.Common.{◌+◌, ◌*◌, ◌≤◌, min, length, ap, ◌∙◌, arith}
use Rattle.device.specs.Blocks.{whole}
use Rattle.device.proofs.Whole.{one_more_shown, shown_from_end}
use Rattle.device.proofs.blocks.read_blocks.Goals as goal

pub loop-i-preserved : goal.loop-i-preserved
loop-i-preserved c =
    let i = c.loop-i.i in
    let fits : 1024 * i + 1024 ≤ length c.loop-i.out = omega arith in
    λ k h. rw c.put_block.ensures (one_more_shown c.loop-i.out c.at.result.now (whole c.args.disk.now) c.min-start.result i c.at.ensures.len fits c.at.ensures.value c.loop-i.invariant k h)

pub returns : goal.returns
returns c =
    shown_from_end c.loop-i.out (whole c.args.disk.now) c.args.from c.min-start.result c.loop-i.i
    (c.min-start.ensures ∙ ap (min c.args.from) c.count.ensures.value) (omega arith) c.loop-i.invariant

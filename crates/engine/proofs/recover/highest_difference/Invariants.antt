use Rattle.device.specs.Blocks.{block_of}
use Rattle.engine.specs.Recovering.{SameBetween}
use Rattle.engine.proofs.recover.highest_difference.Given as goal

abbrev pub invariant-loop-i : goal.invariant-loop-i
invariant-loop-i l = SameBetween (block_of l.first) (block_of l.second) l.i l.blocks

use Rattle.std.proofs.Common.{◌≡◌, ℕ, ◌+◌, ◌<◌}
use Rattle.model.specs.Book.{nth}
use Rattle.device.specs.Blocks.{whole, block_of}
use Rattle.device.proofs.blocks.read_blocks.Given as goal

abbrev pub invariant-loop-i : goal.invariant-loop-i
invariant-loop-i l = (k : ℕ) → k < l.i → block_of l.out k ≡ nth (whole l.disk) (l.start + k)

use mathlib.Core.Logic.{∥∥₁_map}
use Rattle.device.specs.Ran.{together}
use Rattle.world.proofs.Stated.{read_on}
use Rattle.world.proofs.world.World.overwrite.Goals as goal

pub invariant_of-self : goal.invariant_of-self
unfolding together
invariant_of-self c = record { reached = λ t. ∥∥₁_map (c.args.self.now.reached t) (λ q. read_on _ _ _ _ c.args.self.now.progress.work _ _ _ _ _ _ _ c.in_err-read.ensures q) }

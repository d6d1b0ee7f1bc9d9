use mathlib.Core.Logic.{∥∥₁_map}
use Rattle.world.proofs.Stated.{nothing_left, rises}
use Rattle.world.proofs.world.World.recovered.Goals as goal

pub invariant_of-self : goal.invariant_of-self
invariant_of-self c = record { reached = λ t. ∥∥₁_map (c.args.self.now.reached t) (λ q. rises _ _ c.args.self.now.progress.work _ _ _ _ _ c.if-self.false (nothing_left c.args.self.now.progress.work _ c.if-not-is_idle.ensures) q) }

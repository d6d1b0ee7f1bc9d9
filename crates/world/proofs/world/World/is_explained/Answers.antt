use mathlib.Core.Logic.{∥∥₁_map}
use Rattle.world.proofs.Stated.{untouched}
use Rattle.world.proofs.world.World.is_explained.Goals as goal

pub returns : goal.returns
returns c = λ h. ∥∥₁_map (c.args.self.now.reached (untouched _ h)) (λ q. q.1)

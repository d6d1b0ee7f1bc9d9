use Rattle.std.proofs.Common.{ap, ◌∙◌}
use mathlib.Core.Logic.{∥∥₁_map}
use Rattle.device.specs.Blocks.{whole}
use Rattle.world.proofs.Stated.{copied}
use Rattle.world.proofs.world.World.copy.Goals as goal

pub invariant_of-result : goal.invariant_of-result
invariant_of-result c = record {
  reached = λ t. ∥∥₁_map (c.args.self.now.reached t) (λ q.
      copied _ _ _ _ c.args.self.now.progress.work _ _ _ _ _
      (ap whole c.in_ok-copy.ensures.0) c.in_ok-copy.ensures.1
      (ap whole c.in_ok-copy-2.ensures.0) c.in_ok-copy-2.ensures.1
      (c.in_ok-from_slice.ensures.items ∙ c.as_slice.ensures.value) q);
}

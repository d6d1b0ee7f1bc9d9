use mathlib.Core.Logic.{∥∥₁_map}
use Rattle.std.proofs.Common.{[], subst}
use Rattle.device.specs.Ran.{Both}
use Rattle.world.specs.Means.{past_of, under_of}
use Rattle.world.specs.Reached.{Reached}
use Rattle.world.proofs.Steps.{side_same}
use Rattle.world.proofs.world.World.set_left.Goals as goal

pub invariant_of-self : goal.invariant_of-self
invariant_of-self c =
    let old = c.args.self.now in
    let e = rw c.disk_mut.ensures.value at c.set_left.ensures in
    let P : Both → Type 0 = λ d. Reached d old.pages old.up old.progress.work old.progress.done old.progress.held (under_of old.under) (past_of old.past.items []) in
    record { reached = λ t. ∥∥₁_map (old.reached t) (λ q. subst P (side_same old.disks c.args.side c.set_left.new.self e.bytes e.alive) q) }

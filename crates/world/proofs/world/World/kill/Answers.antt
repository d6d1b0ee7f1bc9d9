use mathlib.Core.Logic.{∥∥₁_map}
use Rattle.world.proofs.Steps.{died, side_dead}
use Rattle.world.proofs.world.World.kill.Goals as goal

pub invariant_of-self : goal.invariant_of-self
invariant_of-self c =
    let old = c.args.self.now in
    let e = rw c.disk_mut.ensures.value at c.kill.ensures in
    record { reached = λ t. ∥∥₁_map (old.reached t) (λ q. died _ _ _ _ old.progress.work _ _ _ _ (side_dead old.disks c.args.side c.kill.new.self e.bytes e.alive) q) }

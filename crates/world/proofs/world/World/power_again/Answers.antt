use Rattle.std.proofs.Common.{sym, refl}
use mathlib.Core.Logic.{∥∥₁_map}
use Rattle.device.specs.Ran.{together}
use Rattle.world.proofs.Steps.{power_none}
use Rattle.world.proofs.Stated.{stops_again}
use Rattle.world.proofs.world.World.power_again.Goals as goal

pub invariant_of-self : goal.invariant_of-self
unfolding together
invariant_of-self c =
    let old = c.args.self.now in
    record { reached = λ t. ∥∥₁_map (old.reached t) (λ q. power_none _ _ _ _ old.progress.work _ _ _ _ (sym c.in_ok-need_disk.ensures) c.in_err-work.ensures q) }

pub invariant_of-self-2 : goal.invariant_of-self-2
unfolding together
invariant_of-self-2 c =
    let old = c.args.self.now in
    record {
      reached = λ t. rw c.begin.ensures (∥∥₁_map (old.reached t) (λ q.
          stops_again _ _ old.progress.work _ _ _ _ _ c.in_ok-work.work _ _ c.if-self.false (sym c.in_ok-need_disk.ensures) c.in_ok-work.ensures refl q));
    }

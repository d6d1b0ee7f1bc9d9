use Rattle.std.proofs.Common.{sym, ap}
use mathlib.Core.Logic.{∥∥₁_map}
use Rattle.wire.specs.Calls.{call_of}
use Rattle.device.specs.Ran.{together}
use Rattle.world.proofs.Stated.{nothing_left, starts, starts_none}
use Rattle.world.proofs.world.World.begin.Goals as goal

pub invariant_of-self : goal.invariant_of-self
unfolding together
invariant_of-self c =
    let old = c.args.self.now in
    record {
      reached = λ t. ∥∥₁_map (old.reached t) (λ q.
          starts_none _ _ old.progress.work _ _ _ _ _ (call_of c.as_slice.result.now) c.begin.new.page _
          c.if-not-self.false (sym c.if-is_some.ensures) (sym c.in_ok-need_disk.ensures) (nothing_left old.progress.work _ c.if-not-is_idle.ensures) c.in_err-turn.ensures q);
    }

pub invariant_of-self-2 : goal.invariant_of-self-2
unfolding together
invariant_of-self-2 c =
    let old = c.args.self.now in
    record {
      reached = λ t. rw c.begin-2.ensures (∥∥₁_map (old.reached t) (λ q.
          starts _ _ old.progress.work _ _ _ _ _ c.in_ok-turn.turn c.args.asked.now _ _ _ c.begin.new.page _
          c.if-not-self.false (sym c.if-is_some.ensures) (sym c.in_ok-need_disk.ensures) (nothing_left old.progress.work _ c.if-not-is_idle.ensures)
          (ap call_of c.as_slice.ensures) c.with_page.ensures c.in_ok-turn.ensures q));
    }

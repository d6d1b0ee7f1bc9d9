use Rattle.std.proofs.Common.{◌≡◌, [], ◌∷◌, ◌++◌, vec_items, sym, refl, rules}
use mathlib.Core.Logic.{∥∥₁_map}
use Rattle.device.specs.Ran.{together}
use Rattle.world.proofs.Steps.{power_none}
use Rattle.world.proofs.Stated.{stops, stops_not}
use Rattle.world.proofs.world.World.power.Goals as goal

pub invariant_of-self : goal.invariant_of-self
unfolding together
invariant_of-self c =
    let old = c.args.self.now in
    record { reached = λ t. ∥∥₁_map (old.reached t) (λ q. power_none _ _ _ _ old.progress.work _ _ _ _ (sym c.in_ok-need_disk.ensures) c.in_err-work.ensures q) }

pub invariant_of-self-in-Break-branch-3 : goal.invariant_of-self-in-Break-branch-3
unfolding together
invariant_of-self-in-Break-branch-3 c =
    let old = c.args.self.now in
    let same : vec_items c.push.new.self ≡ vec_items old.past = search rules in
    record {
      reached = λ t. ∥∥₁_map (old.reached t) (λ q.
          stops_not _ _ old.progress.work _ _ _ _ _ c.in_ok-work.work _ _ (sym c.in_ok-need_disk.ensures) c.in_ok-work.ensures same q);
    }

pub invariant_of-self-2 : goal.invariant_of-self-2
unfolding together
invariant_of-self-2 c =
    let old = c.args.self.now in
    let more : vec_items c.push.new.self ≡ vec_items old.past ++ (c.cut_event.result ∷ []) = search rules in
    record {
      reached = λ t. rw c.begin.ensures (∥∥₁_map (old.reached t) (λ q.
          stops _ _ old.progress.work _ _ _ _ _ c.in_ok-work.work _ _ _ c.cut_event.result
          c.if-not-self.false (sym c.in_ok-need_disk.ensures) c.in_ok-work.ensures refl more c.cut_event.ensures.means q));
    }

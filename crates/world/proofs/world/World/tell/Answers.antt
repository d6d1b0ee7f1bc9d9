use Rattle.std.proofs.Common.{◌≡◌, [], ◌∷◌, ◌++◌, vec_items, sym, rules}
use mathlib.Core.Logic.{∥∥₁_map}
use Rattle.world.specs.declared.history.Event.TheVariants.{Answered}
use Rattle.world.proofs.Stated.{nothing_left, past_kept, tells}
use Rattle.world.proofs.world.World.tell.Goals as goal

pub invariant_of-self : goal.invariant_of-self
invariant_of-self c =
    let same : vec_items c.push.new.self ≡ vec_items c.args.self.now.past = search rules in
    record { reached = λ t. ∥∥₁_map (c.args.self.now.reached t) (λ q. past_kept _ _ _ c.args.self.now.progress.work _ _ _ _ _ same q) }

pub invariant_of-self-2 : goal.invariant_of-self-2
invariant_of-self-2 c =
    let old = c.args.self.now in
    let under = c.in-Some.under in
    let more : vec_items c.push.new.self ≡ vec_items old.past ++ (Answered under.call under.answer ∷ []) = search rules in
    record {
      reached = λ t. ∥∥₁_map (old.reached t) (λ q.
          tells _ _ old.progress.work _ _ _ _ under _ _ c.if-not-self.false (sym c.in_ok-need_disk.ensures) (nothing_left old.progress.work _ c.if-not-is_idle.ensures)
          c.in-Some.is more q);
    }

use Rattle.std.proofs.Common.{sym, ap, ◌∙◌}
use Rattle.std.specs.Option.{option_map}
use Rattle.std.specs.Result.{result_ok}
use mathlib.Core.Logic.{∥∥₁_map}
use Rattle.device.specs.Ran.{together}
use Rattle.engine.specs.Works.{write_means}
use Rattle.world.proofs.Steps.{wrote_next, wrote_none}
use Rattle.world.proofs.world.World.write_next.Goals as goal

pub invariant_of-self-in-Break-branch-3 : goal.invariant_of-self-in-Break-branch-3
unfolding together
invariant_of-self-in-Break-branch-3 c =
    let old = c.args.self.now in
    let is = c.ok_or.ensures.ok_part ∙ ap result_ok c.in_ok-write.was in
    record {
      reached = λ t. ∥∥₁_map (old.reached t) (λ q.
          wrote_none _ _ _ _ old.progress.work _ c.in_ok-write.write _ _ _ _ (sym c.in_ok-need_disk.ensures)
          (λ b list. ap (option_map (write_means old.progress.work.block b)) (sym is) ∙ c.write.ensures.value b list) c.in_err-perform.ensures q);
    }

pub invariant_of-self-2 : goal.invariant_of-self-2
unfolding together
invariant_of-self-2 c =
    let old = c.args.self.now in
    let is = c.ok_or.ensures.ok_part ∙ ap result_ok c.in_ok-write.was in
    record {
      reached = λ t. ∥∥₁_map (old.reached t) (λ q.
          wrote_next _ _ _ _ old.progress.work _ c.in_ok-write.write _ _ _ _ (sym c.in_ok-need_disk.ensures)
          (λ b list. ap (option_map (write_means old.progress.work.block b)) (sym is) ∙ c.write.ensures.value b list) c.in_ok-perform.ensures q);
    }

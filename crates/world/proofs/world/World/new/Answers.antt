use Rattle.std.proofs.Common.{Option, ap, subst, ◌∙◌}
use Rattle.std.specs.Result.{result_ok}
use Rattle.device.specs.Ran.{together}
use Rattle.engine.specs.Making.{Makes}
use Rattle.engine.specs.declared.work.Work.{Work}
use Rattle.world.proofs.Stated.{makes}
use Rattle.world.proofs.world.World.new.Goals as goal

pub invariant_of-result : goal.invariant_of-result
unfolding together
invariant_of-result c =
    let work = c.in_ok-work.work in
    let e = c.ok_or.ensures.ok_part ∙ ap result_ok c.in_ok-work.was in
    let made = subst (λ (o : Option Work). Makes c.args.pages o) e c.making.ensures in
    record { reached = λ t. ∣ makes _ _ _ work _ _ _ _ made (c.in_ok-raw_disk.ensures, c.in_ok-raw_disk-2.ensures) c.len.ensures c.make.ensures.lives c.new.ensures.items ∣₁ }

use Rattle.std.proofs.Common.{Option, false, ap, subst, ◌∙◌}
use Rattle.std.specs.Result.{result_ok}
use Rattle.std.proofs.lemmas.Result.{err_from_is_err_and}
use Rattle.engine.specs.Making.{Makes}
use Rattle.engine.specs.declared.work.Work.{Work}
use Rattle.engine.proofs.Made.{made, some_register, made_lives}
use Rattle.engine.proofs.make.make.Goals as goal

pub returns-in_err-finish : goal.returns-in_err-finish
returns-in_err-finish g c =
    let work = c.in_ok-work.work in
    let e = c.ok_or.ensures.ok_part ∙ ap result_ok c.in_ok-work.was in
    let makes = subst (λ (o : Option Work). Makes c.args.pages o) e c.making.ensures in
    let done = made _ _ c.args.pages work false makes c.in_err-finish.ensures in
    let p = err_from_is_err_and c.from_residual-in_err-finish.result c.from_residual-in_err-finish.ensures.1 in
    rw p.1 (record { done = done; refused = λ no. absurd (some_register c.args.pages work makes no); lives = made_lives _ _ c.args.pages _ done })

pub returns : goal.returns
returns g c =
    let work = c.in_ok-work.work in
    let e = c.ok_or.ensures.ok_part ∙ ap result_ok c.in_ok-work.was in
    let makes = subst (λ (o : Option Work). Makes c.args.pages o) e c.making.ensures in
    let done = made _ _ c.args.pages work _ makes c.in_ok-finish.ensures in
    record { done = done; refused = λ no. absurd (some_register c.args.pages work makes no); lives = made_lives _ _ c.args.pages _ done }

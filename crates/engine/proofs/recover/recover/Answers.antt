use Rattle.std.proofs.Common.{false}
use Rattle.std.proofs.lemmas.Result.{err_from_is_err_and}
use Rattle.engine.proofs.Recovering.{recovered, recovered_dead}
use Rattle.engine.proofs.Living.{recovery_lives}
use Rattle.engine.proofs.recover.recover.Goals as goal

pub returns-in_err-work : goal.returns-in_err-work
returns-in_err-work g c =
    let done = recovered_dead _ _ c.args.pages c.in_err-work.ensures in
    let p = err_from_is_err_and c.from_residual.result c.from_residual.ensures.1 in
    rw p.1 (record { done = done; lives = recovery_lives _ _ c.args.pages _ done })

pub returns-in_err-finish : goal.returns-in_err-finish
returns-in_err-finish g c =
    let done = recovered _ _ _ c.args.pages c.in_ok-work.work false c.in_ok-work.ensures c.in_err-finish.ensures in
    let p = err_from_is_err_and c.from_residual-in_err-finish.result c.from_residual-in_err-finish.ensures.1 in
    rw p.1 (record { done = done; lives = recovery_lives _ _ c.args.pages _ done })

pub returns : goal.returns
returns g c =
    let done = recovered _ _ _ c.args.pages c.in_ok-work.work _ c.in_ok-work.ensures c.in_ok-finish.ensures in
    record { done = done; lives = recovery_lives _ _ c.args.pages _ done }

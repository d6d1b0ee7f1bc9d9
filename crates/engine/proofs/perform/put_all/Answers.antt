use Rattle.std.proofs.Common.{false, refl, arith}
use Rattle.std.proofs.lemmas.Result.{err_from_is_err_and}
use Rattle.engine.proofs.Stepping.{some_none, some_on, all_dead, all_done}
use Rattle.engine.proofs.perform.put_all.Goals as goal

pub loop-i-init : goal.loop-i-init
loop-i-init g c = some_none _ c.args.work.now

pub loop-i-preserved : goal.loop-i-preserved
loop-i-preserved g c = some_on _ _ _ c.args.work.now c.loop-i.i _ c.loop-i.invariant c.in_ok-put_step.ensures

pub returns-in_err-put_step : goal.returns-in_err-put_step
returns-in_err-put_step g c =
    let p = err_from_is_err_and c.from_residual.result c.from_residual.ensures.1 in
    rw p.1
    (all_dead _ _ _ c.args.work.now c.loop-i.i false c.loop-i.invariant c.in_err-put_step.ensures refl)

pub returns : goal.returns
returns g c = all_done _ _ c.args.work.now c.loop-i.i _ (λ b. omega (arith, c.len-i-end.ensures.value b c.args.work.now.block)) c.loop-i.invariant c.one_lives.ensures

use Rattle.std.proofs.Common.{false, replicate, refl}
use Rattle.std.proofs.lemmas.Result.{err_from_is_err_and}
use Rattle.engine.proofs.Stepping.{finished_copied, finished_dead, finished_alone}
use Rattle.engine.proofs.perform.finish.Goals as goal

pub returns-in_default : goal.returns-in_default
returns-in_default g c = finished_alone _ _ c.args.work.now _ c.in_default.is c.put_all.ensures

pub returns-in_err-perform : goal.returns-in_err-perform
returns-in_err-perform g c =
    let p = err_from_is_err_and c.from_residual.result c.from_residual.ensures.1 in
    rw p.1
    (finished_dead _ _ c.args.work.now c.in-Some.block (replicate 1024 0) c.perform.new.held false c.in-Some.is c.in_err-perform.ensures refl)

pub returns : goal.returns
returns g c = finished_copied _ _ _ c.args.work.now c.in-Some.block (replicate 1024 0) c.perform.new.held _ _ c.in-Some.is c.in_ok-perform.ensures c.put_all-2.ensures

use Rattle.std.proofs.Common.{false, refl}
use Rattle.std.proofs.lemmas.Result.{err_from_is_err_and}
use Rattle.engine.proofs.Doing.{performed, performed_dead}
use Rattle.engine.proofs.perform.perform.Goals as goal

pub returns-in_err-ready : goal.returns-in_err-ready
returns-in_err-ready g c =
    let p = err_from_is_err_and c.from_residual.result c.from_residual.ensures.1 in
    rw p.1
    (performed_dead _ _ c.args.work.now c.args.write c.args.held.now _ false c.in_err-ready.ensures refl)

pub returns : goal.returns
returns g c = performed _ _ _ c.args.work.now c.args.write c.args.held.now _ _ _ c.in_ok-ready.ensures refl c.write.ensures.did c.one_lives.ensures

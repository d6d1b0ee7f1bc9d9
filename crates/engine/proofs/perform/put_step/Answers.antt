use Rattle.std.proofs.Common.{false, refl, arith}
use Rattle.std.proofs.lemmas.Result.{err_from_is_err_and}
use Rattle.engine.proofs.Stepping.{half_more, halfway_on, halfway_none, half_dead, half_done, no_step}
use Rattle.engine.proofs.perform.put_step.Goals as goal

pub returns-in_default : goal.returns-in_default
returns-in_default g c = no_step _ c.args.work.now c.args.i _ (λ b list. c.in_default.ensures.value b c.args.work.now.block list) c.one_lives.ensures

pub perform-requires : goal.perform-requires
perform-requires g c = c.in-Some.ensures.reads

pub loop-disk-init : goal.loop-disk-init
loop-disk-init g c = halfway_none _ c.args.work.now c.in-Some.step c.args.held.now

pub loop-disk-preserved : goal.loop-disk-preserved
loop-disk-preserved g c =
    halfway_on _ _ c.args.work.now c.in-Some.step c.loop-disk.disk-index c.perform.new.held _
    (half_more _ _ _ c.args.work.now c.in-Some.step c.loop-disk.disk-index _ c.loop-disk.held c.perform.new.held _ (omega arith) refl c.loop-disk.invariant c.in_ok-perform.ensures)
    refl

pub returns-in_err-perform : goal.returns-in_err-perform
returns-in_err-perform g c =
    let p = err_from_is_err_and c.from_residual.result c.from_residual.ensures.1 in
    rw p.1
    (half_dead _ _ c.args.work.now c.in-Some.step c.args.i _ c.perform.new.held false
    (λ b list. c.in-Some.ensures.value b c.args.work.now.block list)
    (half_more _ _ _ c.args.work.now c.in-Some.step c.loop-disk.disk-index _ c.loop-disk.held c.perform.new.held false (omega arith) refl c.loop-disk.invariant c.in_err-perform.ensures)
    refl)

pub returns : goal.returns
returns g c =
    half_done _ _ c.args.work.now c.in-Some.step c.args.i c.loop-disk.disk-index c.loop-disk.held _
    (λ b list. c.in-Some.ensures.value b c.args.work.now.block list) (omega arith) c.loop-disk.invariant c.one_lives-2.ensures

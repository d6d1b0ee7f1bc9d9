use Rattle.std.proofs.Common.{sym, refl, ◌∙◌}
use Rattle.std.proofs.lemmas.Result.{err_from_is_err_and}
use Rattle.engine.proofs.Recovering.{begun_both, begun_one, begun_none}
use Rattle.engine.proofs.recover.begin_recovery.Goals as goal

pub returns-then-is_ok : goal.returns-then-is_ok
returns-then-is_ok g c =
    begun_both _ _ _ c.args.pages c.scan-copy.result c.scan-copy.new.block c.read_both.new.first c.read_both.new.second _ c.replaying.result c.scan-copy.ensures
    c.read_both.ensures (sym c.is_ok.ensures.value ∙ c.if-is_ok.true) c.replaying.ensures.keeps.0 c.replaying.ensures.keeps.1 c.replaying.ensures.plan

pub returns-in_err-read : goal.returns-in_err-read
returns-in_err-read g c =
    let p = err_from_is_err_and c.from_residual.result c.from_residual.ensures.1 in
    rw p.1
    (begun_none _ _ _ _ c.args.pages c.scan-copy.result c.scan-copy.new.block c.read_both.new.first c.read_both.new.second c.read.new.out _ _ c.scan-copy.ensures
    c.read_both.ensures c.in_err-read.ensures refl)

pub returns : goal.returns
returns g c =
    begun_one _ _ _ _ c.args.pages c.scan-copy.result c.scan-copy.new.block c.read_both.new.first c.read_both.new.second c.read.new.out _ _ c.replaying-2.result
    c.scan-copy.ensures c.read_both.ensures (sym c.is_ok.ensures.value ∙ c.if-is_ok.false) c.in_ok-read.ensures refl c.replaying-2.ensures.keeps.0 c.replaying-2.ensures.plan

use Rattle.std.proofs.Common.{refl, ◌∙◌, arith}
use Rattle.journal.proofs.Admitted.{replay_planned, nothing_planned}
use Rattle.journal.proofs.admit.replay.Goals as goal

pub returns-then-log : goal.returns-then-log
returns-then-log c = λ b given h e. replay_planned b c.args.log.count given (h ∙ c.if-log.true) e

pub returns : goal.returns
returns c = λ b given h e. nothing_planned b (record { writes = 0; few = omega arith }) given refl (h ∙ c.if-log.false)

use Rattle.engine.specs.Doing.{PutSome}
use Rattle.engine.proofs.perform.put_all.Given as goal

abbrev pub invariant-loop-i : goal.invariant-loop-i
invariant-loop-i g l = PutSome (g.P.Pair.disks l.initial.disks) (g.P.Pair.disks l.disks) l.work l.i

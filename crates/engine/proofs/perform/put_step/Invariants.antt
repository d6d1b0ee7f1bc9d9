use Rattle.engine.specs.Doing.{Halfway}
use Rattle.engine.proofs.perform.put_step.Given as goal

abbrev pub invariant-loop-disk : goal.invariant-loop-disk
invariant-loop-disk g l = Halfway (g.P.Pair.disks l.initial.disks) (g.P.Pair.disks l.disks) l.work l.step l.disk-index l.held

use Rattle.model.specs.Disks.{cut}
use Rattle.world.proofs.world.cut_event.Goals as goal

pub returns-in-Some-clause-means : goal.returns-in-Some-clause-means
unfolding cut
returns-in-Some-clause-means c = λ hs. rw c.in-Some.is

pub returns-in-None-clause-means : goal.returns-in-None-clause-means
unfolding cut
returns-in-None-clause-means c = λ hs. rw c.in-None.is

use Rattle.promise.proofs.Resting.{made_empty}
use Rattle.promise.proofs.Counts.{makes_each_once}
use Rattle.promise.proofs.made_new.Goals as goal

pub returns : goal.returns
returns c = record { empty = made_empty; once = makes_each_once }

use Rattle.promise.proofs.Resting.{pages_stand, replicas_same}
use Rattle.promise.proofs.Since.{stands_on}
use Rattle.promise.proofs.at_rest.Goals as goal

pub returns : goal.returns
returns c = record { pages = pages_stand; same = replicas_same; stands = stands_on }

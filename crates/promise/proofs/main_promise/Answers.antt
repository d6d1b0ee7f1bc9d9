use Rattle.model.specs.Promise.{thin, all}
use Rattle.promise.proofs.Right.{is_right}
use Rattle.promise.proofs.AsTwo.{two_right}
use Rattle.promise.proofs.main_promise.Goals as goal

pub returns : goal.returns
returns c = record { list_thin = is_right thin; list_all = is_right all; two_thin = two_right thin; two_all = two_right all }

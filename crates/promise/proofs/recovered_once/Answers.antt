use Rattle.promise.proofs.Recovered as recovered
use Rattle.promise.proofs.recovered_once.Goals as goal

pub returns : goal.returns
returns c = recovered.recovered_once

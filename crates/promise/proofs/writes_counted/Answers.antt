use Rattle.promise.proofs.Resting.{refused_writes_nothing}
use Rattle.promise.proofs.Counts.{call_counts, recovery_counts, stays_bounded}
use Rattle.promise.proofs.writes_counted.Goals as goal

pub returns : goal.returns
returns c = record { refused = refused_writes_nothing; calls = call_counts; recovery = recovery_counts; bounded = stays_bounded }

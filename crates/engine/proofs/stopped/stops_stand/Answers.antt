use Rattle.engine.proofs.Living.{stopped_call_lives, stopped_recovery_lives}
use Rattle.engine.proofs.stopped.stops_stand.Goals as goal

pub returns : goal.returns
returns c = record { call = stopped_call_lives; recovery = stopped_recovery_lives }

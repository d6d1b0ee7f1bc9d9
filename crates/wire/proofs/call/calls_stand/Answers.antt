use Rattle.wire.proofs.Calls.{round_trip, own_bytes, ceases, numbered}
use Rattle.wire.proofs.call.calls_stand.Goals as goal

pub returns : goal.returns
returns c = record { back = round_trip; own = own_bytes; place = ceases; number = numbered }

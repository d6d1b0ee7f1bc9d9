use Rattle.wire.proofs.Answers.{round_trip, own_bytes, turned_refuses}
use Rattle.wire.proofs.answer.answers_stand.Goals as goal

pub returns : goal.returns
returns c = record { back = round_trip; own = own_bytes; refusals = turned_refuses }

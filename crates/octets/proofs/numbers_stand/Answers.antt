use Rattle.octets.proofs.Parts.{num4_written_same, num4_written_other}
use Rattle.octets.proofs.numbers_stand.Goals as goal

pub returns : goal.returns
returns c = record { same = num4_written_same; others = num4_written_other }

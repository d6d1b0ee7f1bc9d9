use Rattle.frames.proofs.Kept.{first_bytes_decide}
use Rattle.frames.proofs.first_bytes_decide.Goals as goal

pub returns : goal.returns
returns c = first_bytes_decide

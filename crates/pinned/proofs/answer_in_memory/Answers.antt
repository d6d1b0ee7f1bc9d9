use Rattle.device.specs.Ran.{together}
use Rattle.pinned.proofs.answer_in_memory.Goals as goal

pub returns : goal.returns
unfolding together
returns c = c.answer.ensures

use Rattle.device.specs.Ran.{together}
use Rattle.pinned.proofs.recover_in_memory.Goals as goal

pub returns : goal.returns
unfolding together
returns c = c.recover.ensures

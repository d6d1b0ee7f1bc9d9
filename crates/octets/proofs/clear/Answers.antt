use Rattle.std.proofs.Common.{◌∙◌}
use Rattle.octets.proofs.Parts.{empty_is}
use Rattle.octets.proofs.clear.Goals as goal

pub returns : goal.returns
returns c = c.copy_block.ensures ∙ empty_is

use Rattle.std.proofs.Common.{rules}
use Rattle.octets.proofs.Parts.{overwritten_is}
use Rattle.octets.proofs.put_block.Goals as goal

pub returns : goal.returns
returns c = search (rules, overwritten_is)

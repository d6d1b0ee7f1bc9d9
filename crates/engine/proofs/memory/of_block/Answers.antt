use Rattle.std.proofs.Common.{rules}
use Rattle.engine.proofs.Packing.{length_eights}
use Rattle.engine.proofs.memory.of_block.Goals as goal

pub returns : goal.returns
returns c = search (rules, length_eights)

use Rattle.std.proofs.Common.{length-append, rules}
use Rattle.engine.proofs.memory.numbers_kept.Goals as goal

pub returns : goal.returns
returns c = search (rules, length-append)

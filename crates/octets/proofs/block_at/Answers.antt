use Rattle.std.proofs.Common.{rules}
use Rattle.std.proofs.lemmas.List.{places}
use Rattle.octets.proofs.Parts.{part_is}
use Rattle.octets.proofs.block_at.Goals as goal

pub returns : goal.returns
returns c = record { value = search (rules, part_is); len = search (rules, places) }

use Rattle.std.proofs.Common.{refl, ◌∙◌}
use Rattle.octets.proofs.Parts.{overwritten_is}
use Rattle.octets.proofs.put_u32.Goals as goal

pub returns : goal.returns
returns c = overwritten_is c.args.dst.now _ _ c.args.at 4 (c.copy_from_slice.ensures.after ∙ c.to_le_bytes.ensures) refl

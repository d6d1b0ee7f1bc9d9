use Rattle.std.proofs.Common.{◌≡◌, ℕ, List, Decides, subst}
use Rattle.octets.proofs.Parts.{empty_is}
use Rattle.octets.proofs.is_empty.Goals as goal

pub returns : goal.returns
returns c = subst (λ (z : List ℕ). Decides c.same.result (c.args.block.now ≡ z)) empty_is c.same.ensures

-- How many numbers of eight bytes some bytes are.
use Rattle.std.proofs.Common.{◌≡◌, ℕ, zero, suc, List, length, drop, refl, ap}
use Rattle.engine.specs.Memory.{eights}

pub length_eights : (n : ℕ) (bs : List ℕ) → length (eights n bs) ≡ n
unfolding eights
length_eights zero bs = refl
length_eights (suc n) bs = ap suc (length_eights n (drop 8 bs))

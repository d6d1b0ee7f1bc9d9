-- The writes of two replicas by their number: each item on the first and then on the second.
use Rattle.std.proofs.Common.{◌≡◌, ℕ, zero, suc, ◌*◌, ◌/◌, ◌%◌, List, [], ◌∷◌, length, refl, ap, ◌∙◌, arith}
use Rattle.std.specs.List.{slice_get as item}
use Rattle.std.specs.Option.{option_map}
use Rattle.model.specs.Numbers.{copies}
use Rattle.model.specs.Disks.{on}
use Rattle.mirror.specs.Mirror.{numbers, on_each, mirrored}

-- the k-th write is item k / 2 on disk k % 2
pub mirrored_item : {I : Type 0} (xs : List I) (k : ℕ) → item (mirrored copies xs) k ≡ option_map (on (k % copies)) (item xs (k / copies))
unfolding mirrored on_each numbers
mirrored_item [] k = refl
mirrored_item (x ∷ xs) zero = refl
mirrored_item (x ∷ xs) (suc zero) = refl
mirrored_item (x ∷ xs) (suc (suc k)) =
    let d : suc (suc k) / 2 ≡ suc (k / 2) = omega arith in
    let m : suc (suc k) % 2 ≡ k % 2 = omega arith in
    rw (d, m) (mirrored_item xs k)

pub length_mirrored : {I : Type 0} (xs : List I) → length (mirrored copies xs) ≡ copies * length xs
unfolding mirrored on_each numbers
length_mirrored [] = refl
length_mirrored (x ∷ xs) = ap (λ n. suc (suc n)) (length_mirrored xs) ∙ omega arith

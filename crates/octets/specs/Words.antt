-- Numbers of four bytes, and parts of byte strings. Definitions only.
use Rattle.std.specs.Prelude.{◌≡◌, ℕ, ◌+◌, ◌*◌, ◌/◌, ◌%◌, ◌<◌, ◌≤◌, ◌⊎◌, List, [], ◌∷◌, ◌++◌, length, take, drop, slice_index}

-- the four bytes of a number, low byte first
abbrev pub le4 : ℕ → List ℕ
le4 n = (n % 256) ∷ (n / 256 % 256) ∷ (n / 65536 % 256) ∷ (n / 16777216 % 256) ∷ []

-- the number in the four bytes from a place on
abbrev pub num4 : List ℕ → ℕ → ℕ
num4 xs at = slice_index xs at + slice_index xs (at + 1) * 256 + slice_index xs (at + 2) * 65536 + slice_index xs (at + 3) * 16777216

-- xs with ys over what stood from a place on
abbrev pub overwritten : List ℕ → ℕ → List ℕ → List ℕ
overwritten xs at ys = take at xs ++ (ys ++ drop (at + length ys) xs)

-- n bytes of xs from a place on
abbrev pub part : List ℕ → ℕ → ℕ → List ℕ
part xs at n = take n (drop at xs)

-- a number that was written is read back
abbrev pub ReadsBack : Type 0
ReadsBack = (xs : List ℕ) (at n : ℕ) → at + 4 ≤ length xs → n < 4294967296 → num4 (overwritten xs at (le4 n)) at ≡ n

-- a write changes no number that stands wholly before it or after it
abbrev pub KeepsOthers : Type 0
KeepsOthers = (xs ys : List ℕ) (at k : ℕ) → at + length ys ≤ length xs → (k + 4 ≤ at) ⊎ (at + length ys ≤ k) → num4 (overwritten xs at ys) k ≡ num4 xs k

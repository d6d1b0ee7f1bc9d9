-- Lists of bytes, and fields of four bytes in them: any four bytes are the four bytes of one number.
use Rattle.std.proofs.Common.{◌≡◌, ℕ, ◌+◌, ◌*◌, ◌<◌, true, List, [], ◌∷◌, ◌++◌, length, refl, arith}
use Rattle.std.proofs.lemmas.Bool.Decides.{nat_tests}
use Rattle.octets.specs.Words.{le4}
use Rattle.model.specs.Book.{bytes}

pub first_byte : (x : ℕ) (xs : List ℕ) → bytes (x ∷ xs) ≡ true → x < 256
unfolding bytes
first_byte x xs h = grind (arith, nat_tests)

pub more_bytes : (x : ℕ) (xs : List ℕ) → bytes (x ∷ xs) ≡ true → bytes xs ≡ true
unfolding bytes
more_bytes x xs h = grind (arith, nat_tests)

pub no_bytes : bytes [] ≡ true
unfolding bytes
no_bytes = refl

pub bytes_more : (x : ℕ) (xs : List ℕ) → x < 256 → bytes xs ≡ true → bytes (x ∷ xs) ≡ true
unfolding bytes
bytes_more x xs h g = grind (arith, nat_tests)

pub bytes_le4 : (n : ℕ) (xs : List ℕ) → bytes xs ≡ true → bytes (le4 n ++ xs) ≡ true
bytes_le4 n xs h = grind (arith, bytes_more)

abbrev pub number : ℕ → ℕ → ℕ → ℕ → ℕ
number a b c d = a + b * 256 + c * 65536 + d * 16777216

abbrev pub Four : ℕ → ℕ → ℕ → ℕ → Type 0
Four a b c d = (a < 256) × (b < 256) × (c < 256) × (d < 256)

pub number_below : (a b c d : ℕ) → Four a b c d → number a b c d < 4294967296
number_below a b c d (p, q, r, s) = omega arith

pub le4_number : (a b c d : ℕ) → Four a b c d → le4 (number a b c d) ≡ a ∷ (b ∷ (c ∷ (d ∷ [])))
le4_number a b c d (p, q, r, s) = grind arith

-- bytes hold a field at their front, or are too few and become one with some bytes more
pub data Field : List ℕ → Type 0 where
  full : (a b c d : ℕ) (t : List ℕ) → Four a b c d → bytes t ≡ true → Field (a ∷ (b ∷ (c ∷ (d ∷ t))))
  short : (r : List ℕ) (a b c d : ℕ) (t : List ℕ) → length r < 4 → Four a b c d → r ++ t ≡ a ∷ (b ∷ (c ∷ (d ∷ []))) → Field r

pub field : (r : List ℕ) → bytes r ≡ true → Field r
field [] h = short [] 0 0 0 0 (0 ∷ (0 ∷ (0 ∷ (0 ∷ [])))) (omega arith) (omega arith, omega arith, omega arith, omega arith) refl
field (a ∷ []) h =
    let p = first_byte a [] h in
    short (a ∷ []) a 0 0 0 (0 ∷ (0 ∷ (0 ∷ []))) (omega arith) (p, omega arith, omega arith, omega arith) refl
field (a ∷ (b ∷ [])) h =
    let g = more_bytes a (b ∷ []) h in
    short (a ∷ (b ∷ [])) a b 0 0 (0 ∷ (0 ∷ [])) (omega arith) (first_byte a (b ∷ []) h, first_byte b [] g, omega arith, omega arith) refl
field (a ∷ (b ∷ (c ∷ []))) h =
    let g = more_bytes a (b ∷ (c ∷ [])) h in
    let f = more_bytes b (c ∷ []) g in
    short (a ∷ (b ∷ (c ∷ []))) a b c 0 (0 ∷ []) (omega arith) (first_byte a (b ∷ (c ∷ [])) h, first_byte b (c ∷ []) g, first_byte c [] f, omega arith) refl
field (a ∷ (b ∷ (c ∷ (d ∷ t)))) h =
    let g = more_bytes a (b ∷ (c ∷ (d ∷ t))) h in
    let f = more_bytes b (c ∷ (d ∷ t)) g in
    let e = more_bytes c (d ∷ t) f in
    full a b c d t (first_byte a (b ∷ (c ∷ (d ∷ t))) h, first_byte b (c ∷ (d ∷ t)) g, first_byte c (d ∷ t) f, first_byte d t e) (more_bytes d t e)

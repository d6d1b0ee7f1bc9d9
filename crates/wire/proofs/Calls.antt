-- The laws of calls as bytes: a call is read back as it was written, bytes that are a call are its own, and
-- the place where bytes cease to be a call is the end of the longest front with which some call begins.
use Rattle.std.proofs.Common.{◌≡◌, ℕ, zero, suc, ◌+◌, ◌<◌, ◌≤◌, true, List, [], ◌∷◌, ◌++◌, length, get_or, take, drop, sym, refl, ap, ◌∙◌, subst, arith}
use Rattle.std.proofs.lemmas.List.{take_all}
use Rattle.std.proofs.lemmas.Bool.Decides.{nat_tests}
use Rattle.octets.specs.Words.{num4}
use Rattle.octets.proofs.Parts.{num4_le4}
use Rattle.model.specs.Book as book
use Rattle.wire.specs.Calls.{call_of, call_bytes, Carried, RoundTrip, OwnBytes, Begins, Ceases, Numbered}
use Rattle.wire.proofs.Fields.{more_bytes, no_bytes, bytes_more, bytes_le4, number, Four, number_below, le4_number, Field, full, short, field}

-- the bytes of a write
pub write_is : (bs t : List ℕ) (n : ℕ) → get_or bs 0 0 ≡ 1 → 5 ≤ length bs → n ≡ num4 bs 1 → t ≡ drop 5 bs → book.write n t ≡ call_of bs
write_is bs t n k l e f = grind (arith, nat_tests)

pub round_trip : RoundTrip
round_trip (book.read p) h = (bytes_more 0 _ (omega arith) (bytes_le4 p [] no_bytes), ap book.read (num4_le4 p (omega arith)))
round_trip (book.write p bs) (h, g) =
    (bytes_more 1 _ (omega arith) (bytes_le4 p bs g), sym (write_is (call_bytes (book.write p bs)) bs p refl (omega arith) (sym (num4_le4 p h)) refl))
round_trip book.close h = (bytes_more 2 [] (omega arith) no_bytes, refl)
round_trip book.size h = (bytes_more 3 [] (omega arith) no_bytes, refl)
round_trip (book.garbled k) h = elim h [ ]

pub numbered : Numbered
unfolding book.call_number
numbered (book.read p) h = refl
numbered (book.write p bs) h = refl
numbered book.close h = refl
numbered book.size h = refl
numbered (book.garbled k) h = elim h [ ]

-- how many bytes follow a call's number
follow : (c : book.Call) → Carried c → (x : ℕ) (t : List ℕ) → call_bytes c ≡ x ∷ t → (x ≤ 3) × (x ≡ 0 → length t ≡ 4) × (2 ≤ x → length t ≡ 0)
follow (book.read p) h x t e = grind arith
follow (book.write p bs) h x t e = grind arith
follow book.close h x t e = grind arith
follow book.size h x t e = grind arith
follow (book.garbled k) h x t e = elim h [ ]

-- any four bytes behind the number of a read or a write make one
read_field : (a b c d : ℕ) → Four a b c d → call_bytes (book.read (number a b c d)) ≡ 0 ∷ (a ∷ (b ∷ (c ∷ (d ∷ []))))
read_field a b c d f = ap (λ xs. 0 ∷ xs) (le4_number a b c d f)

write_field : (a b c d : ℕ) (t : List ℕ) → Four a b c d → call_bytes (book.write (number a b c d) t) ≡ 1 ∷ (a ∷ (b ∷ (c ∷ (d ∷ t))))
write_field a b c d t f = ap (λ xs. 1 ∷ (xs ++ t)) (le4_number a b c d f)

-- what the bytes are by their number and by how many follow
short_read_is : (r : List ℕ) → length r < 4 → call_of (0 ∷ r) ≡ book.garbled (suc (length r))
short_read_is r h = grind (arith, nat_tests)

short_write_is : (r : List ℕ) → length r < 4 → call_of (1 ∷ r) ≡ book.garbled (suc (length r))
short_write_is r h = grind (arith, nat_tests)

pub long_read_is : (r : List ℕ) → 4 < length r → call_of (0 ∷ r) ≡ book.garbled 5
long_read_is r h = grind (arith, nat_tests)

pub long_close_is : (r : List ℕ) → 0 < length r → call_of (2 ∷ r) ≡ book.garbled 1
long_close_is r h = grind (arith, nat_tests)

pub long_size_is : (r : List ℕ) → 0 < length r → call_of (3 ∷ r) ≡ book.garbled 1
long_size_is r h = grind (arith, nat_tests)

pub unknown_is : (x : ℕ) (r : List ℕ) → 3 < x → call_of (x ∷ r) ≡ book.garbled 0
unknown_is x r h = grind (arith, nat_tests)

-- a call's own bytes, or the longest front with which some call begins and where it ends
data Parsed (bs : List ℕ) (c : book.Call) : Type 0 where
  whole : Carried c → call_bytes c ≡ bs → Parsed bs c
  ceases_at : (k : ℕ) → c ≡ book.garbled k → k ≤ length bs → Begins (take k bs) → (k < length bs → Begins (take (k + 1) bs) → ⊥) → Parsed bs c

-- bytes that end before a call's field does
too_short : (bs : List ℕ) → call_of bs ≡ book.garbled (length bs) → Begins bs → Parsed bs (call_of bs)
too_short bs e b = ceases_at (length bs) e (omega arith) (subst Begins (sym (take_all (length bs) bs (omega arith))) b) (λ l. absurd (omega arith))

parsed_read : (r : List ℕ) → Field r → Parsed (0 ∷ r) (call_of (0 ∷ r))
parsed_read r (short _ a b c d t l f e) = too_short (0 ∷ r) (short_read_is r l) (book.read (number a b c d), t, number_below a b c d f, read_field a b c d f ∙ ap (λ xs. 0 ∷ xs) (sym e))
parsed_read _ (full a b c d [] f h) = whole (number_below a b c d f) (read_field a b c d f)
parsed_read _ (full a b c d (e ∷ t) f h) =
    ceases_at 5 (long_read_is (a ∷ (b ∷ (c ∷ (d ∷ (e ∷ t))))) (omega arith)) (omega arith)
    (book.read (number a b c d), [], number_below a b c d f, read_field a b c d f)
    (λ l (k, u, g, q). absurd (omega (arith, (follow k g _ _ q).1 refl)))

parsed_write : (r : List ℕ) → Field r → Parsed (1 ∷ r) (call_of (1 ∷ r))
parsed_write r (short _ a b c d t l f e) = too_short (1 ∷ r) (short_write_is r l) (book.write (number a b c d) [], t, (number_below a b c d f, no_bytes), write_field a b c d [] f ∙ ap (λ xs. 1 ∷ xs) (sym e))
parsed_write _ (full a b c d t f h) =
    let bs : List ℕ = 1 ∷ (a ∷ (b ∷ (c ∷ (d ∷ t)))) in
    subst (Parsed bs) (write_is bs t (number a b c d) refl (omega arith) refl refl) (whole (number_below a b c d f, h) (write_field a b c d t f))

parsed : (bs : List ℕ) → book.bytes bs ≡ true → Parsed bs (call_of bs)
parsed [] h = too_short [] refl (book.close, 2 ∷ [], tt, refl)
parsed (zero ∷ r) h = parsed_read r (field r (more_bytes 0 r h))
parsed (suc zero ∷ r) h = parsed_write r (field r (more_bytes 1 r h))
parsed (suc (suc zero) ∷ []) h = whole tt refl
parsed (suc (suc zero) ∷ (x ∷ r)) h =
    ceases_at 1 (long_close_is (x ∷ r) (omega arith)) (omega arith) (book.close, [], tt, refl)
    (λ l (k, u, g, q). absurd (omega (arith, (follow k g _ _ q).2 (omega arith))))
parsed (suc (suc (suc zero)) ∷ []) h = whole tt refl
parsed (suc (suc (suc zero)) ∷ (x ∷ r)) h =
    ceases_at 1 (long_size_is (x ∷ r) (omega arith)) (omega arith) (book.size, [], tt, refl)
    (λ l (k, u, g, q). absurd (omega (arith, (follow k g _ _ q).2 (omega arith))))
parsed (suc (suc (suc (suc x))) ∷ r) h =
    ceases_at 0 (unknown_is (suc (suc (suc (suc x)))) r (omega arith)) (omega arith) (book.close, 2 ∷ [], tt, refl)
    (λ l (k, u, g, q). absurd (omega (arith, (follow k g _ _ q).0)))

pub own_bytes : OwnBytes
own_bytes bs h n = go (parsed bs h)
  where
    go : Parsed bs (call_of bs) → Carried (call_of bs) × (call_bytes (call_of bs) ≡ bs)
    go (whole g e) = (g, e)
    go (ceases_at k e l b z) = absurd (n k e)

pub ceases : Ceases
ceases bs k h e = go (parsed bs h)
  where
    go : Parsed bs (call_of bs) → (k ≤ length bs) × Begins (take k bs) × (k < length bs → Begins (take (k + 1) bs) → ⊥)
    go (whole g f) = absurd (subst Carried e g)
    go (ceases_at j f l b z) =
        let q : j ≡ k = cc in
        subst (λ (m : ℕ). (m ≤ length bs) × Begins (take m bs) × (m < length bs → Begins (take (m + 1) bs) → ⊥)) q (l, b, z)

-- The first 1,030 bytes of a call decide: a longer write has more than a page, with them or without the rest,
-- and every other call ceases to be one within its first six bytes.
use Rattle.std.proofs.Common.{◌≡◌, ℕ, zero, suc, ◌<◌, ◌≤◌, ◌⊎◌, List, [], ◌∷◌, length, take, drop, sym, refl, ap, ◌∙◌, inl, inr, arith}
use Rattle.std.proofs.lemmas.List.{take_all, length-drop, length-take-le}
use Rattle.std.proofs.lemmas.Bool.{cases_lt}
use Rattle.std.proofs.lemmas.Bool.Decides.{nat_tests}
use Rattle.model.specs.Book as book
use Rattle.model.specs.Book.{Limits, Book, answer, after}
use Rattle.octets.specs.Words.{num4}
use Rattle.wire.specs.Calls.{call_of}
use Rattle.wire.proofs.Calls.{write_is, long_read_is, long_close_is, long_size_is, unknown_is}
use Rattle.frames.specs.Kept.{Decide}

-- a write that hasn't a page's bytes is refused by 2, and changes nothing
abbrev Unfit : Limits → Book → book.Call → Type 0
Unfit l b c = (answer l b c ≡ book.refused 2 0) × (after l b c ≡ b)

unfit_write : (l : Limits) (b : Book) (a : ℕ) (p : List ℕ) → (length p ≡ 1024 → ⊥) → Unfit l b (book.write a p)
unfolding book.call_number book.good_fields book.turned_by book.place
unfit_write l b a p h = grind (arith, nat_tests)

unfit : (l : Limits) (b : Book) (r : List ℕ) → 4 ≤ length r → (length r ≡ 1028 → ⊥) → Unfit l b (call_of (1 ∷ r))
unfit l b r h n =
    let bs : List ℕ = 1 ∷ r in
    rw (← write_is bs (drop 5 bs) (num4 bs 1) refl (omega arith) refl refl) (unfit_write l b (num4 bs 1) (drop 5 bs) (λ q. absurd (omega (arith, length-drop 5 bs))))

-- two calls that are refused alike
alike : (l : Limits) (b : Book) (c d : book.Call) → Unfit l b c → Unfit l b d → (answer l b c ≡ answer l b d) × (after l b c ≡ after l b d)
alike l b c d (e, f) (g, h) = (e ∙ sym g, f ∙ sym h)

same : (l : Limits) (b : Book) (c d k : book.Call) → c ≡ k → d ≡ k → (answer l b c ≡ answer l b d) × (after l b c ≡ after l b d)
same l b c d k e f = (ap (answer l b) (e ∙ sym f), ap (after l b) (e ∙ sym f))

longer : (l : Limits) (b : Book) (bs : List ℕ) → 1030 < length bs → (answer l b (call_of (take 1030 bs)) ≡ answer l b (call_of bs)) × (after l b (call_of (take 1030 bs)) ≡ after l b (call_of bs))
longer l b [] h = absurd (omega arith)
longer l b (x ∷ r) h = go x
  where
    e : length (take 1029 r) ≡ 1029
    e = length-take-le 1029 r (omega arith)

    go : (x : ℕ) → (answer l b (call_of (x ∷ take 1029 r)) ≡ answer l b (call_of (x ∷ r))) × (after l b (call_of (x ∷ take 1029 r)) ≡ after l b (call_of (x ∷ r)))
    go zero = same l b _ _ (book.garbled 5) (long_read_is (take 1029 r) (omega (arith, e))) (long_read_is r (omega arith))
    go (suc zero) = alike l b _ _ (unfit l b (take 1029 r) (omega (arith, e)) (λ q. absurd (omega (arith, e)))) (unfit l b r (omega arith) (λ q. absurd (omega arith)))
    go (suc (suc zero)) = same l b _ _ (book.garbled 1) (long_close_is (take 1029 r) (omega (arith, e))) (long_close_is r (omega arith))
    go (suc (suc (suc zero))) = same l b _ _ (book.garbled 1) (long_size_is (take 1029 r) (omega (arith, e))) (long_size_is r (omega arith))
    go (suc (suc (suc (suc y)))) = same l b _ _ (book.garbled 0) (unknown_is (suc (suc (suc (suc y)))) (take 1029 r) (omega (arith, e))) (unknown_is (suc (suc (suc (suc y)))) r (omega arith))

pub first_bytes_decide : Decide 1030
first_bytes_decide l b bs = go (cases_lt 1030 (length bs))
  where
    go : (1030 < length bs) ⊎ (length bs ≤ 1030) → (answer l b (call_of (take 1030 bs)) ≡ answer l b (call_of bs)) × (after l b (call_of (take 1030 bs)) ≡ after l b (call_of bs))
    go (inl h) = longer l b bs h
    go (inr h) = same l b _ _ (call_of bs) (ap call_of (take_all 1030 bs h)) refl

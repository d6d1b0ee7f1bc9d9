-- The laws of answers as bytes: an answer is read back as it was written, bytes that are an answer are its
-- own, and the refusals are those of the book.
use Rattle.std.proofs.Common.{◌≡◌, ℕ, zero, suc, ◌<◌, ◌≤◌, Bool, true, false, cond, ◌&&◌, ltb, ◌⊎◌, List, [], ◌∷◌, length, get_or, drop, Some, None, Option, sym, refl, ap, subst, inl, inr, arith}
use Rattle.std.proofs.lemmas.Bool.{cases_eq}
use Rattle.std.proofs.lemmas.Bool.Decides.{nat_tests}
use Rattle.octets.proofs.Parts.{num4_le4}
use Rattle.model.specs.Numbers.{room}
use Rattle.model.specs.Book as book
use Rattle.wire.specs.declared.answer.Refusal.TheVariants.{NotACall, Unfit, NoSuchPage, LogFull}
use Rattle.wire.specs.Answers.{known, answer_of, answer_bytes, Refuses, Carried, RoundTrip, OwnBytes, TurnedRefuses}
use Rattle.wire.proofs.Fields.{more_bytes, no_bytes, bytes_more, bytes_le4, number, number_below, le4_number, Field, full, short, field}

-- the bytes of a page
pub page_is : (bs p : List ℕ) → get_or bs 0 0 ≡ 2 → length bs ≡ 1025 → p ≡ drop 1 bs → Some (book.page p) ≡ answer_of bs
page_is bs p k l e = grind (arith, nat_tests)

-- the numbers and places that are known are those of the refusals
refuses_known : (n k : ℕ) → Refuses n k → known n k ≡ true
refuses_known n k (NotACall j, e, f) = rw (← e) refl
refuses_known n k (Unfit, e, f) = rw (← e, ← f) refl
refuses_known n k (NoSuchPage, e, f) = rw (← e, ← f) refl
refuses_known n k (LogFull, e, f) = rw (← e, ← f) refl

known_bounds : (n k : ℕ) → known n k ≡ true → (1 ≤ n) × (n ≤ 4) × (1 < n → k ≡ 0)
known_bounds n k h = grind (arith, nat_tests)

known_refuses : (n k : ℕ) → known n k ≡ true → Refuses n k
known_refuses zero k h = absurd (omega (arith, (known_bounds 0 k h).0))
known_refuses (suc zero) k h = (NotACall k, refl, refl)
known_refuses (suc (suc zero)) k h = (Unfit, refl, sym ((known_bounds 2 k h).2 (omega arith)))
known_refuses (suc (suc (suc zero))) k h = (NoSuchPage, refl, sym ((known_bounds 3 k h).2 (omega arith)))
known_refuses (suc (suc (suc (suc zero)))) k h = (LogFull, refl, sym ((known_bounds 4 k h).2 (omega arith)))
known_refuses (suc (suc (suc (suc (suc n))))) k h = absurd (omega (arith, (known_bounds (suc (suc (suc (suc (suc n))))) k h).1))

pub round_trip : RoundTrip
round_trip (book.refused n k) (r, l) =
    let h = refuses_known n k r in
    (bytes_more 0 _ (omega arith) (bytes_more n _ (omega (arith, (known_bounds n k h).1)) (bytes_le4 k [] no_bytes)), rw (num4_le4 k l, h))
round_trip book.done h = (bytes_more 1 [] (omega arith) no_bytes, refl)
round_trip (book.page p) (h, l) = (bytes_more 2 p (omega arith) l, sym (page_is (2 ∷ p) p refl (omega arith) refl))
round_trip (book.number n) h = (bytes_more 3 _ (omega arith) (bytes_le4 n [] no_bytes), ap (λ m. Some (book.number m)) (num4_le4 n (omega arith)))

-- bytes that are no answer, by their number and by how many follow
other_refusal_is : (r : List ℕ) → (length r ≡ 5 → ⊥) → answer_of (0 ∷ r) ≡ None
other_refusal_is r h = grind (arith, nat_tests)

long_done_is : (r : List ℕ) → 0 < length r → answer_of (1 ∷ r) ≡ None
long_done_is r h = grind (arith, nat_tests)

other_page_is : (r : List ℕ) → (length r ≡ 1024 → ⊥) → answer_of (2 ∷ r) ≡ None
other_page_is r h = grind (arith, nat_tests)

other_number_is : (r : List ℕ) → (length r ≡ 4 → ⊥) → answer_of (3 ∷ r) ≡ None
other_number_is r h = grind (arith, nat_tests)

unknown_is : (x : ℕ) (r : List ℕ) → 3 < x → answer_of (x ∷ r) ≡ None
unknown_is x r h = grind (arith, nat_tests)

-- an answer's own bytes, or no answer
data Parsed (bs : List ℕ) (o : Option book.Answer) : Type 0 where
  whole : (a : book.Answer) → o ≡ Some a → Carried a → answer_bytes a ≡ bs → Parsed bs o
  none : o ≡ None → Parsed bs o

parsed_refusal : (n : ℕ) (r : List ℕ) → Field r → Parsed (0 ∷ (n ∷ r)) (answer_of (0 ∷ (n ∷ r)))
parsed_refusal n r (short _ a b c d t l f e) = none (other_refusal_is (n ∷ r) (λ q. absurd (omega arith)))
parsed_refusal n _ (full a b c d (e ∷ t) f h) = none (other_refusal_is (n ∷ (a ∷ (b ∷ (c ∷ (d ∷ (e ∷ t)))))) (λ q. absurd (omega arith)))
parsed_refusal n _ (full a b c d [] f h) = go (known n (number a b c d)) refl
  where
    go : (t : Bool) → known n (number a b c d) ≡ t → Parsed (0 ∷ (n ∷ (a ∷ (b ∷ (c ∷ (d ∷ [])))))) (answer_of (0 ∷ (n ∷ (a ∷ (b ∷ (c ∷ (d ∷ [])))))))
    go true e = whole (book.refused n (number a b c d)) (rw e) (known_refuses n (number a b c d) e, number_below a b c d f) (ap (λ xs. 0 ∷ (n ∷ xs)) (le4_number a b c d f))
    go false e = none (rw e)

parsed_page : (r : List ℕ) → book.bytes r ≡ true → Parsed (2 ∷ r) (answer_of (2 ∷ r))
parsed_page r h = go (cases_eq (length r) 1024)
  where
    go : (length r ≡ 1024) ⊎ (length r ≡ 1024 → ⊥) → Parsed (2 ∷ r) (answer_of (2 ∷ r))
    go (inl l) = whole (book.page r) (sym (page_is (2 ∷ r) r refl (omega arith) refl)) (l, h) refl
    go (inr n) = none (other_page_is r n)

parsed_number : (r : List ℕ) → Field r → Parsed (3 ∷ r) (answer_of (3 ∷ r))
parsed_number r (short _ a b c d t l f e) = none (other_number_is r (λ q. absurd (omega arith)))
parsed_number _ (full a b c d (e ∷ t) f h) = none (other_number_is (a ∷ (b ∷ (c ∷ (d ∷ (e ∷ t))))) (λ q. absurd (omega arith)))
parsed_number _ (full a b c d [] f h) = whole (book.number (number a b c d)) refl (number_below a b c d f) (ap (λ xs. 3 ∷ xs) (le4_number a b c d f))

parsed : (bs : List ℕ) → book.bytes bs ≡ true → Parsed bs (answer_of bs)
parsed [] h = none refl
parsed (zero ∷ []) h = none refl
parsed (zero ∷ (n ∷ r)) h = parsed_refusal n r (field r (more_bytes n r (more_bytes 0 (n ∷ r) h)))
parsed (suc zero ∷ []) h = whole book.done refl tt refl
parsed (suc zero ∷ (x ∷ r)) h = none (long_done_is (x ∷ r) (omega arith))
parsed (suc (suc zero) ∷ r) h = parsed_page r (more_bytes 2 r h)
parsed (suc (suc (suc zero)) ∷ r) h = parsed_number r (field r (more_bytes 3 r h))
parsed (suc (suc (suc (suc x))) ∷ r) h = none (unknown_is (suc (suc (suc (suc x)))) r (omega arith))

pub own_bytes : OwnBytes
own_bytes bs a h e = go (parsed bs h)
  where
    go : Parsed bs (answer_of bs) → Carried a × (answer_bytes a ≡ bs)
    go (whole b f g q) =
        let s : b ≡ a = cc in
        subst (λ (x : book.Answer). Carried x × (answer_bytes x ≡ bs)) s (g, q)
    go (none f) = let z : ◌≡◌ {A = ℕ} 0 1 = cc in absurd (omega arith)

-- one test more that may turn a call away
turned_away : (t : Bool) (n m k : ℕ) → (n ≡ 0) ⊎ Refuses n k → Refuses m k → (cond t n m ≡ 0) ⊎ Refuses (cond t n m) k
turned_away true n m k h g = h
turned_away false n m k h g = inr g

pub turned_refuses : TurnedRefuses
unfolding book.call_number book.good_fields book.turned_by book.place
turned_refuses l b (book.read a) =
    turned_away (l.calls_can 0 && true) _ 2 0 (turned_away (ltb a l.pages) 0 3 0 (inl refl) (NoSuchPage, refl, refl)) (Unfit, refl, refl)
turned_refuses l b (book.write a p) =
    let full = turned_away (ltb b.waiting room) 0 4 0 (inl refl) (LogFull, refl, refl) in
    turned_away (l.calls_can 1 && book.good_page p) _ 2 0 (turned_away (ltb a l.pages) _ 3 0 full (NoSuchPage, refl, refl)) (Unfit, refl, refl)
turned_refuses l b book.close = turned_away (l.calls_can 2 && true) 0 2 0 (inl refl) (Unfit, refl, refl)
turned_refuses l b book.size = turned_away (l.calls_can 3 && true) 0 2 0 (inl refl) (Unfit, refl, refl)
turned_refuses l b (book.garbled k) = inr (NotACall k, refl, refl)

-- How many writes the register's plans are: exactly, whatever the disks hold, and at most for two disks.
-- Making writes every block of every disk once.
use Rattle.std.proofs.Common.{◌≡◌, ℕ, zero, suc, ◌+◌, ◌-◌, ◌*◌, ◌<◌, ◌≤◌, Bool, true, false, cond, ◌&&◌, eqb, ◌⊎◌, List, [], ◌∷◌, ◌++◌, length, sym, refl, ap, ◌∙◌, subst, inl, inr, add-zero, add_assoc, zero-add, arith, length-append}
use Rattle.std.proofs.lemmas.Bool.{eq-eqb, ne_eqb, cases_eq}
use Rattle.model.specs.Numbers.{room, first_page}
use Rattle.model.specs.Book.{Page, empty_page, Call, read, write, close, size, garbled, turned}
use Rattle.model.specs.Disks.{On}
use Rattle.model.specs.Plain.{Put}
use Rattle.mirror.specs.Mirror.{numbers, on_each, mirrored, source, resync}
use Rattle.mirror.proofs.Plans.{below_mirrored, AllItems, items_append, items_on_each, length_mirrored, length_resync}
use Rattle.layout.proofs.Blocks.{good_empty}
use Rattle.journal.specs.Journal.{holds, count, recovery, call_puts, book_of, puts_of, blank_puts}
use Rattle.journal.proofs.Log.{Fits}
use Rattle.journal.proofs.Steps.{length_blanks}
use Rattle.journal.proofs.Counts.{count_few_always, length_write, length_close, length_recovery}
use Rattle.promise.specs.Register.{recovery_writes}
use Rattle.promise.specs.Bounds.{times, MakesEachOnce, call_length, CallCounts, RecoveryCounts, most_call_writes, most_recovery_writes, StaysBounded}
use Rattle.promise.proofs.Within.{within_from}

-- calls and recovery
length_call : (b : List Page) (c : Call) → length (call_puts b c) ≡ call_length (count b) c
unfolding call_puts call_length
length_call b (read a) = refl
length_call b (write a p) = length_write b a p
length_call b close = length_close b
length_call b size = refl
length_call b (garbled n) = refl

length_taken : (t : Bool) (b : List Page) (c : Call) → length (cond t (call_puts b c) []) ≡ cond t (call_length (count b) c) 0
length_taken true b c = length_call b c
length_taken false b c = refl

pub call_counts : CallCounts
unfolding CallCounts
call_counts l m d c =
    length_mirrored (length d) (puts_of l (source d) c) ∙ ap (λ n. length d * n) (length_taken (eqb (turned l (book_of (source d)) c) 0) (source d) c)

pub recovery_counts : RecoveryCounts
unfolding RecoveryCounts
recovery_counts d = (
  length-append (resync 0 (source d) d) (mirrored (length d) (recovery (source d)))
      ∙ ap (λ n. length (resync 0 (source d) d) + n) (length_mirrored (length d) (recovery (source d)) ∙ ap (λ n. length d * n) (length_recovery (source d))),
  length_resync d,
)

-- for two disks
call_length_few : (n : ℕ) (c : Call) → n ≤ room → call_length n c ≤ 2 + room
unfolding call_length
call_length_few n (read a) h = omega arith
call_length_few n (write a p) h = omega arith
call_length_few n close h = omega arith
call_length_few n size h = omega arith
call_length_few n (garbled k) h = omega arith

cond_few : (t : Bool) (x y n : ℕ) → x ≤ n → y ≤ n → cond t x y ≤ n
cond_few true x y n h k = h
cond_few false x y n h k = k

twice_few : (k n m : ℕ) → k ≡ 2 → n ≤ m → k * n ≤ 2 * m
twice_few k n m e h = subst (λ (x : ℕ). x * n ≤ 2 * m) (sym e) (omega arith)

pub stays_bounded : StaysBounded
unfolding StaysBounded CallCounts RecoveryCounts
stays_bounded d e =
    let few = count_few_always (source d) in
    let r : length d * cond (holds (source d)) (count (source d) + 1) 1 ≤ 2 * (1 + room) = twice_few (length d) _ (1 + room) e (cond_few (holds (source d)) (count (source d) + 1) 1 (1 + room) (omega arith) (omega arith)) in
    let h = recovery_counts d in (
      total (length (recovery_writes d)) (length (resync 0 (source d) d)) _ (length d) e h.0 r h.1,
      λ l m c.
          subst (λ (x : ℕ). x ≤ most_call_writes) (sym (call_counts l m d c))
          (twice_few (length d) _ (2 + room) e (cond_few (eqb (turned l (book_of (source d)) c) 0) (call_length (count (source d)) c) 0 (2 + room) (call_length_few (count (source d)) c few) (omega arith))),
    )
  where
    total : (x a b k : ℕ) → k ≡ 2 → x ≡ a + b → b ≤ 2 * (1 + room) → a ≤ k - 1 → x ≤ most_recovery_writes
    total x a b k e f g h = omega arith

-- making: each block of each disk, once
times_append : (i j : ℕ) (xs ys : List (On Put)) → times i j (xs ++ ys) ≡ times i j xs + times i j ys
unfolding times
times_append i j [] ys = sym (zero-add _)
times_append i j (x ∷ xs) ys = ap (λ n. cond (eqb i x.disk && eqb j x.item.block) 1 0 + n) (times_append i j xs ys) ∙ sym (add_assoc _ _ _)

-- how many of these puts are of block j
unfoldable times_put : ℕ → List Put → ℕ
times_put j [] = 0
times_put j (m ∷ ms) = cond (eqb j m.block) 1 0 + times_put j ms

times_past : (i j a n : ℕ) (m : Put) → i < a → times i j (on_each (numbers a n) m) ≡ 0
unfolding times on_each numbers
times_past i j a zero m h = refl
times_past i j a (suc n) m h = rw (ne_eqb i a (λ e. omega arith), zero-add) (times_past i j (suc a) n m (omega arith))

times_once : (i j a n : ℕ) (m : Put) → a ≤ i → i < a + n → times i j (on_each (numbers a n) m) ≡ cond (eqb j m.block) 1 0
unfolding times on_each numbers
times_once i j a zero m h k = absurd (omega arith)
times_once i j a (suc n) m h k = go (cases_eq i a) (λ z. times_once i j (suc a) n m z (omega arith))
  where
    go : (i ≡ a) ⊎ (i ≡ a → ⊥) → (suc a ≤ i → times i j (on_each (numbers (suc a) n) m) ≡ cond (eqb j m.block) 1 0) →
        cond (eqb i a && eqb j m.block) 1 0 + times i j (on_each (numbers (suc a) n) m) ≡ cond (eqb j m.block) 1 0
    go (inl e) f = rw (eq-eqb i a e, times_past i j (suc a) n m (omega arith), add-zero)
    go (inr e) f = rw (ne_eqb i a e, zero-add) (f (omega arith))

times_mirrored : (i j k : ℕ) (ms : List Put) → i < k → times i j (mirrored k ms) ≡ times_put j ms
unfolding mirrored times_put
times_mirrored i j k [] h = unfold times in refl
times_mirrored i j k (m ∷ ms) h =
    times_append i j (on_each (numbers 0 k) m) (mirrored k ms) ∙ rw (times_once i j 0 k m (omega arith) (omega arith), times_mirrored i j k ms h)

blank_before : (j a k : ℕ) → j < a → times_put j (blank_puts a k) ≡ 0
unfolding times_put blank_puts
blank_before j a zero h = refl
blank_before j a (suc k) h = rw (ne_eqb j a (λ e. omega arith), zero-add) (blank_before j (suc a) k (omega arith))

blank_once : (j a k : ℕ) → a ≤ j → j < a + k → times_put j (blank_puts a k) ≡ 1
unfolding times_put blank_puts
blank_once j a zero h l = absurd (omega arith)
blank_once j a (suc k) h l = go (cases_eq j a) (λ z. blank_once j (suc a) k z (omega arith))
  where
    go : (j ≡ a) ⊎ (j ≡ a → ⊥) → (suc a ≤ j → times_put j (blank_puts (suc a) k) ≡ 1) → cond (eqb j a) 1 0 + times_put j (blank_puts (suc a) k) ≡ 1
    go (inl e) f = rw (eq-eqb j a e, blank_before j (suc a) k (omega arith))
    go (inr e) f = rw (ne_eqb j a e, zero-add) (f (omega arith))

blank_items : (k n a m : ℕ) → a + m ≤ n + first_page → AllItems (Fits n) (mirrored k (blank_puts a m))
unfolding mirrored blank_puts
blank_items k n a zero h = tt
blank_items k n a (suc m) h =
    let x : Put = record { block = a; content = empty_page } in
    items_append (Fits n) (on_each (numbers 0 k) x) (mirrored k (blank_puts (suc a) m)) (items_on_each (Fits n) (numbers 0 k) x (omega arith, good_empty)) (blank_items k n (suc a) m (omega arith))

pub makes_each_once : MakesEachOnce
unfolding MakesEachOnce
makes_each_once k n =
    let ms : List Put = blank_puts 0 (n + first_page) in (
      length_mirrored k ms ∙ ap (λ x. k * x) (length_blanks 0 (n + first_page)),
      within_from k n (mirrored k ms) (below_mirrored k ms) (blank_items k n 0 (n + first_page) (omega arith)),
      λ i j h l. times_mirrored i j k ms h ∙ blank_once j 0 (n + first_page) (omega arith) (omega arith),
    )

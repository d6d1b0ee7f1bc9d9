-- Laws of byte strings that were partly overwritten: what stands where, and that a number of four bytes is
-- read back. The first two lemmas turn the checker's own terms for parts of slices into the words of specs/.
use Rattle.std.proofs.Common.{◌≡◌, ℕ, zero, suc, ◌+◌, ◌-◌, ◌*◌, ◌/◌, ◌%◌, ◌<◌, ◌≤◌, true, List, [], ◌∷◌, ◌++◌, length, get_or, take, drop, set, replicate, sym, refl, ap, ◌∙◌, inl, inr, add_assoc, arith, rules}
use native.Mathlib.Nat.{add-sub_cancel_left, div-div-eq-div-mul}
use borrow.Rule.Slice.PartMut.{put_mid}
use Rattle.std.proofs.lemmas.List.{drop-drop, same_lists, places, take_at, drop_at, drop-take, drop-append-le, length-take-le, length-replicate}
use Rattle.std.proofs.lemmas.Slice.{take-put_mid_below, drop-put_mid}
use Rattle.std.proofs.lemmas.Bool.{lt-ltb}
use Rattle.std.proofs.lemmas.Nat.{div-add-mod'}
use Rattle.model.specs.Book.{many, empty_page, bytes}
use Rattle.octets.specs.Words.{overwritten, part, le4, ReadsBack, KeepsOthers}

pub part_is : (xs : List ℕ) (at n : ℕ) → take (at + n - at) (drop at xs) ≡ part xs at n
part_is xs at n = rw add-sub_cancel_left

pub overwritten_is : (xs ys zs : List ℕ) (at n : ℕ) → ys ≡ zs → length zs ≡ n → put_mid at (at + n - at) xs ys ≡ overwritten xs at zs
overwritten_is xs ys zs at n e h = rw (add-sub_cancel_left, e, ← h, drop-drop)

-- what stands in a list after a write to a part of it
pub getD_written_in : (xs ys : List ℕ) (at k : ℕ) → at ≤ length xs → k < length ys → get_or (overwritten xs at ys) (at + k) 0 ≡ get_or ys k 0
getD_written_in xs ys at k h l = search (rules, places)

pub getD_written_below : (xs ys : List ℕ) (at k : ℕ) → at ≤ length xs → k < at → get_or (overwritten xs at ys) k 0 ≡ get_or xs k 0
getD_written_below xs ys at k h l = search (rules, places)

pub getD_written_above : (xs ys : List ℕ) (at k : ℕ) → at ≤ length xs → at + length ys ≤ k → get_or (overwritten xs at ys) k 0 ≡ get_or xs k 0
getD_written_above xs ys at k h l = search (rules, places)

pub length_overwritten : (xs ys : List ℕ) (at : ℕ) → at + length ys ≤ length xs → length (overwritten xs at ys) ≡ length xs
length_overwritten xs ys at h = search (rules, places)

pub num4_le4 : (n : ℕ) → n < 4294967296 → n % 256 + n / 256 % 256 * 256 + n / 65536 % 256 * 65536 + n / 16777216 % 256 * 16777216 ≡ n
num4_le4 n h =
    let a : n / 256 / 256 ≡ n / 65536 = div-div-eq-div-mul n 256 256 in
    let b : n / 65536 / 256 ≡ n / 16777216 = div-div-eq-div-mul n 65536 256 in
    let p = div-add-mod' n 256 in
    let q : n / 65536 * 256 + n / 256 % 256 ≡ n / 256 = rw (← a) (div-add-mod' (n / 256) 256) in
    let r : n / 16777216 * 256 + n / 65536 % 256 ≡ n / 65536 = rw (← b) (div-add-mod' (n / 65536) 256) in
    let s : n / 16777216 < 256 = omega arith in
    let t : n / 16777216 % 256 ≡ n / 16777216 = omega arith in
    omega arith

-- the number that was overwritten is read back
pub num4_written_same : ReadsBack
num4_written_same xs at n h l =
    let a : at ≤ length xs = omega arith in
    let r0 : get_or (overwritten xs at (le4 n)) at 0 ≡ n % 256 = search (rules, places) in
    let r1 = getD_written_in xs (le4 n) at 1 a (omega arith) in
    let r2 = getD_written_in xs (le4 n) at 2 a (omega arith) in
    let r3 = getD_written_in xs (le4 n) at 3 a (omega arith) in
    simp (r0, r1, r2, r3) (num4_le4 n l)

-- another number is read as it was
pub num4_written_other : KeepsOthers
num4_written_other xs ys at k h (inl l) = simp (getD_written_below xs ys at k (omega arith) (omega arith), getD_written_below xs ys at (k + 1) (omega arith) (omega arith), getD_written_below xs ys at (k + 2) (omega arith) (omega arith), getD_written_below xs ys at (k + 3) (omega arith) (omega arith))
num4_written_other xs ys at k h (inr l) = simp (getD_written_above xs ys at k (omega arith) (omega arith), getD_written_above xs ys at (k + 1) (omega arith) (omega arith), getD_written_above xs ys at (k + 2) (omega arith) (omega arith), getD_written_above xs ys at (k + 3) (omega arith) (omega arith))

pub many_is : (n a : ℕ) → many n a ≡ replicate n a
unfolding many
many_is zero a = refl
many_is (suc n) a = ap (λ xs. a ∷ xs) (many_is n a)

pub empty_is : replicate 1024 0 ≡ empty_page
empty_is = sym (many_is 1024 0)

-- one write after the other
pub written_after : (xs ys zs : List ℕ) (at : ℕ) → at + length ys ≤ length xs → overwritten (overwritten xs at ys) (at + length ys) zs ≡ overwritten xs at (ys ++ zs)
written_after xs ys zs at h = same_lists _ _ (search (rules, places)) (λ k d l. grind (arith, places))

pub set_is_written : (xs : List ℕ) (v : ℕ) → 0 < length xs → set xs 0 v ≡ overwritten xs 0 (v ∷ [])
set_is_written [] v h = absurd (omega arith)
set_is_written (x ∷ xs) v h = refl

-- parts before, in and after what was written
overwritten_mid : (d p : List ℕ) (a : ℕ) → put_mid a (length p) d p ≡ overwritten d a p
overwritten_mid d p a = rw drop-drop

pub take_written_below : (d p : List ℕ) (a n : ℕ) → n ≤ a → a ≤ length d → take n (overwritten d a p) ≡ take n d
take_written_below d p a n h l = ap (take n) (sym (overwritten_mid d p a)) ∙ take-put_mid_below a (length p) d p n h l

pub drop_written_past : (d p : List ℕ) (a n : ℕ) → a + length p ≤ n → a ≤ length d → drop n (overwritten d a p) ≡ drop n d
drop_written_past d p a n h l = ap (drop n) (sym (overwritten_mid d p a)) ∙ drop-put_mid a (length p) d p n h l refl

pub drop_written_below : (d p : List ℕ) (m n : ℕ) → n + m ≤ length d → drop n (overwritten d (n + m) p) ≡ overwritten (drop n d) m p
drop_written_below d p m n h =
    let l : length (take (n + m) d) ≡ n + m = length-take-le (n + m) d h in
    let i : n ≤ length (take (n + m) d) = omega arith in
    drop-append-le n (take (n + m) d) (p ++ drop (n + m + length p) d) i
    ∙ rw (drop-take n m d, drop-drop (m + length p) n d, add_assoc n m (length p))

pub part_written_same : (d p : List ℕ) (a n : ℕ) → length p ≡ n → a ≤ length d → part (overwritten d a p) a n ≡ p
part_written_same d p a n l h =
    let e = length-take-le a d h in
    ap (take n) (drop_at (take a d) (p ++ drop (a + length p) d) a e) ∙ take_at p (drop (a + length p) d) n l

pub part_written_below : (d p : List ℕ) (a k n : ℕ) → k + n ≤ a → a ≤ length d → part (overwritten d a p) k n ≡ part d k n
part_written_below d p a k n h l = sym (drop-take k n (overwritten d a p)) ∙ (ap (drop k) (take_written_below d p a (k + n) h l) ∙ drop-take k n d)

pub part_written_above : (d p : List ℕ) (a k n : ℕ) → a + length p ≤ k → a ≤ length d → part (overwritten d a p) k n ≡ part d k n
part_written_above d p a k n h l = ap (take n) (drop_written_past d p a k h l)

pub length_part : (d : List ℕ) (a n : ℕ) → a + n ≤ length d → length (part d a n) ≡ n
length_part d a n h = search (rules, places)

pub length_empty : length empty_page ≡ 1024
length_empty = ap length (many_is 1024 0) ∙ length-replicate {A = ℕ} 1024 0

-- what a slice of bytes holds is bytes
pub bytes_from : (xs : List ℕ) → ((i : ℕ) → get_or xs i 0 < 256) → bytes xs ≡ true
unfolding bytes
bytes_from [] h = refl
bytes_from (x ∷ xs) h = rw (lt-ltb x 256 (h 0), bytes_from xs (λ i. h (suc i)))

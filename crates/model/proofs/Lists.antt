-- Laws of lists of pages: what a page that was set leaves, what stands from a block on, lists of many
-- equal pages, and when two pages are the same.
use Rattle.std.proofs.Common.{◌≡◌, ℕ, zero, suc, ◌+◌, ◌<◌, true, false, eqb, ◌≢◌, List, [], ◌∷◌, length, get_or, refl, ap, add-zero, add-suc, suc-add, zero-add, arith}
use Rattle.std.proofs.lemmas.Bool.{eqb-true, eq-eqb, and_parts, and_from, both_ways}
use Rattle.model.specs.Book.{Page, empty_page, many, nth, set_page, good_page}
use Rattle.model.specs.Promise.{from_block, same_page}

pub length_set_page : (b : List Page) (i : ℕ) (x : Page) → length (set_page b i x) ≡ length b
unfolding set_page
length_set_page [] i x = refl
length_set_page (y ∷ b) zero x = refl
length_set_page (y ∷ b) (suc i) x = ap suc (length_set_page b i x)

pub nth_set_same : (b : List Page) (i : ℕ) (x : Page) → i < length b → nth (set_page b i x) i ≡ x
unfolding set_page nth
nth_set_same [] i x h = absurd (omega arith)
nth_set_same (y ∷ b) zero x h = refl
nth_set_same (y ∷ b) (suc i) x h = nth_set_same b i x (omega arith)

pub nth_set_other : (b : List Page) (i j : ℕ) (x : Page) → i ≢ j → nth (set_page b i x) j ≡ nth b j
unfolding set_page nth
nth_set_other [] i j x h = refl
nth_set_other (y ∷ b) zero zero x h = absurd (h refl)
nth_set_other (y ∷ b) zero (suc j) x h = refl
nth_set_other (y ∷ b) (suc i) zero x h = refl
nth_set_other (y ∷ b) (suc i) (suc j) x h = nth_set_other b i j x (omega arith)

pub set_set_same : (b : List Page) (i : ℕ) (x y : Page) → set_page (set_page b i x) i y ≡ set_page b i y
unfolding set_page
set_set_same [] i x y = refl
set_set_same (z ∷ b) zero x y = refl
set_set_same (z ∷ b) (suc i) x y = ap (λ c. z ∷ c) (set_set_same b i x y)

pub set_set_other : (b : List Page) (i j : ℕ) (x y : Page) → i ≢ j → set_page (set_page b i x) j y ≡ set_page (set_page b j y) i x
unfolding set_page
set_set_other [] i j x y h = refl
set_set_other (z ∷ b) zero zero x y h = absurd (h refl)
set_set_other (z ∷ b) zero (suc j) x y h = refl
set_set_other (z ∷ b) (suc i) zero x y h = refl
set_set_other (z ∷ b) (suc i) (suc j) x y h = ap (λ c. z ∷ c) (set_set_other b i j x y (omega arith))

pub from_set_below : (k : ℕ) (b : List Page) (j : ℕ) (x : Page) → j < k → from_block k (set_page b j x) ≡ from_block k b
unfolding set_page from_block
from_set_below zero b j x h = absurd (omega arith)
from_set_below (suc k) [] j x h = refl
from_set_below (suc k) (y ∷ b) zero x h = refl
from_set_below (suc k) (y ∷ b) (suc j) x h = from_set_below k b j x (omega arith)

pub from_set_above : (k : ℕ) (b : List Page) (a : ℕ) (x : Page) → from_block k (set_page b (k + a) x) ≡ set_page (from_block k b) a x
unfolding set_page from_block
from_set_above zero b a x = rw zero-add
from_set_above (suc k) [] a x = refl
from_set_above (suc k) (y ∷ b) a x = rw suc-add (from_set_above k b a x)

pub nth_many : (n i : ℕ) → nth (many n empty_page) i ≡ empty_page
unfolding nth many
nth_many zero i = refl
nth_many (suc n) zero = refl
nth_many (suc n) (suc i) = nth_many n i

pub length_many : {A : Type 0} (n : ℕ) (a : A) → length (many n a) ≡ n
unfolding many
length_many zero a = refl
length_many (suc n) a = ap suc (length_many n a)

pub getD_many : (n i : ℕ) → get_or (many {A = ℕ} n 0) i 0 ≡ 0
unfolding many
getD_many zero i = refl
getD_many (suc n) zero = refl
getD_many (suc n) (suc i) = getD_many n i

pub from_many : (k n : ℕ) (x : Page) → from_block k (many (n + k) x) ≡ many n x
unfolding many from_block
from_many zero n x = rw add-zero
from_many (suc k) n x = rw add-suc (from_many k n x)

pub good_set : (b : List Page) (i : ℕ) (x : Page) → good_page x ≡ true → ((j : ℕ) → good_page (nth b j) ≡ true) → (j : ℕ) → good_page (nth (set_page b i x) j) ≡ true
unfolding set_page nth
good_set [] i x g h j = h j
good_set (y ∷ b) zero x g h zero = g
good_set (y ∷ b) zero x g h (suc j) = h (suc j)
good_set (y ∷ b) (suc i) x g h zero = h zero
good_set (y ∷ b) (suc i) x g h (suc j) = good_set b i x g (λ k. h (suc k)) j

pub same_page_refl : (x : Page) → same_page x x ≡ true
unfolding same_page
same_page_refl [] = refl
same_page_refl (n ∷ x) = and_from _ _ (eq-eqb n n refl) (same_page_refl x)

pub same_page_eq : (x y : Page) → same_page x y ≡ true → x ≡ y
unfolding same_page
same_page_eq [] [] e = refl
same_page_eq [] (n ∷ y) e = absurd (both_ways false refl e)
same_page_eq (n ∷ x) [] e = absurd (both_ways false refl e)
same_page_eq (n ∷ x) (k ∷ y) e =
    let h = and_parts (eqb n k) (same_page x y) e in
    let p : n ≡ k = eqb-true n k h.0 in
    let q : x ≡ y = same_page_eq x y h.1 in
    cc

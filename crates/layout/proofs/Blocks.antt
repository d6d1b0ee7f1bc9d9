-- The journal's own blocks: what was written into the header and the list is read back, what stands beside
-- it stays, and both are good pages. A header whose count is in range and whose list names pages of the
-- book is read as it was written; an empty block is such a header.
use Rattle.std.specs.List.{range_with_len, AllWithin, HoldsAt}
use Rattle.std.proofs.Math.Bool.{and-false}
use Rattle.std.proofs.lemmas.List.FromFn.{length-range_with_len, get_or-range_with_len}
use Rattle.std.proofs.Common.{MatchBool, slice_index_or, zero-add, subst, sym, ◌≡◌, ℕ, zero, suc, ◌+◌, ◌*◌, ◌/◌, ◌%◌, ◌<◌, ◌≤◌, Bool, true, false, cond, eqb, ltb, ◌≢◌, ◌⊎◌, List, [], ◌∷◌, ◌++◌, length, take, drop, refl, ap, ◌∙◌, inl, inr, arith}
use Rattle.std.proofs.lemmas.Bool.{eq-eqb, eqb-true, lt-ltb, le-ltb, le-leb, leb-true, and_parts, and_from, cond-true, cases_order}
use Rattle.model.specs.Numbers.{page_size, room}
use Rattle.model.specs.Book.{Page, empty_page, many, bytes, good_page}
use Rattle.model.proofs.Lists.{length_many, getD_many}
use Rattle.octets.specs.Words.{le4}
use Rattle.octets.proofs.Parts.{length_overwritten, num4_le4, num4_written_same, num4_written_other}
use Rattle.layout.specs.Header.{header_block, flag_in, holds_in, count_in}
use Rattle.layout.specs.PageList.{listed, list_with, listed_below}
use Rattle.layout.specs.Reading.{sane, log_holds, log_count}

-- the header
pub count_header : (h : Bool) (n : ℕ) → n < 4294967296 → count_in (header_block h n) ≡ n
count_header h n l = num4_le4 n l

pub holds_header : (h : Bool) (n : ℕ) → holds_in (header_block h n) ≡ h
holds_header true n = refl
holds_header false n = refl

pub flag_header : (h : Bool) (n : ℕ) → flag_in (header_block h n) ≤ 1
flag_header true n = omega arith
flag_header false n = omega arith

-- the list
pub listed_same : (list : Page) (i a : ℕ) → length list ≡ page_size → i < room → a < 4294967296 → listed (list_with list i a) i ≡ a
listed_same list i a e h l = num4_written_same list (4 * i) a (omega arith) l

pub listed_other : (list : Page) (i a j : ℕ) → length list ≡ page_size → i < room → i ≢ j → listed (list_with list i a) j ≡ listed list j
listed_other list i a j e h d = num4_written_other list (le4 a) (4 * i) (4 * j) (omega arith) (apart (cases_order i j))
  where
    apart : (i ≡ j) ⊎ ((i < j) ⊎ (j < i)) → (4 * j + 4 ≤ 4 * i) ⊎ (4 * i + 4 ≤ 4 * j)
    apart (inl z) = absurd (d z)
    apart (inr (inl z)) = inr (omega arith)
    apart (inr (inr z)) = inl (omega arith)

-- bytes stay bytes
bytes_append : (xs ys : List ℕ) → bytes xs ≡ true → bytes ys ≡ true → bytes (xs ++ ys) ≡ true
unfolding bytes
bytes_append [] ys h k = k
bytes_append (x ∷ xs) ys h k = let p = and_parts (ltb x 256) (bytes xs) h in and_from _ _ p.0 (bytes_append xs ys p.1 k)

bytes_take : (n : ℕ) (xs : List ℕ) → bytes xs ≡ true → bytes (take n xs) ≡ true
unfolding bytes
bytes_take zero xs h = refl
bytes_take (suc n) [] h = refl
bytes_take (suc n) (x ∷ xs) h = let p = and_parts (ltb x 256) (bytes xs) h in and_from _ _ p.0 (bytes_take n xs p.1)

bytes_drop : (n : ℕ) (xs : List ℕ) → bytes xs ≡ true → bytes (drop n xs) ≡ true
unfolding bytes
bytes_drop zero xs h = h
bytes_drop (suc n) [] h = refl
bytes_drop (suc n) (x ∷ xs) h = bytes_drop n xs (and_parts (ltb x 256) (bytes xs) h).1

bytes_many : (n : ℕ) → bytes (many n 0) ≡ true
unfolding bytes many
bytes_many zero = refl
bytes_many (suc n) = bytes_many n

byte : (n : ℕ) → ltb (n % 256) 256 ≡ true
byte n = lt-ltb (n % 256) 256 (omega arith)

bytes_le4 : (n : ℕ) → bytes (le4 n) ≡ true
unfolding bytes
bytes_le4 n = rw (byte n, byte (n / 256), byte (n / 65536), byte (n / 16777216))

-- good pages
pub good_length : (p : Page) → good_page p ≡ true → length p ≡ page_size
good_length p e = eqb-true _ _ (and_parts (eqb (length p) page_size) (bytes p) e).0

good_from : (p : Page) → length p ≡ page_size → bytes p ≡ true → good_page p ≡ true
good_from p l h = and_from _ _ (eq-eqb _ _ l) h

pub good_empty : good_page empty_page ≡ true
good_empty = good_from empty_page (length_many page_size 0) (bytes_many page_size)

first_byte : (h : Bool) → ltb (cond h 1 0) 256 ≡ true
first_byte true = refl
first_byte false = refl

pub good_header : (h : Bool) (n : ℕ) → good_page (header_block h n) ≡ true
unfolding bytes
good_header h n =
    good_from (header_block h n) (ap (λ (k : ℕ). suc (suc (suc (suc (suc k))))) (length_many {A = ℕ} 1019 0)) (and_from _ _ (first_byte h) (bytes_append (le4 n) (many {A = ℕ} 1019 0) (bytes_le4 n) (bytes_many 1019)))

pub good_list_with : (list : Page) (i a : ℕ) → i < room → good_page list ≡ true → good_page (list_with list i a) ≡ true
good_list_with list i a h g =
    let l = good_length list g in
    let k = (and_parts (eqb (length list) page_size) (bytes list) g).1 in
    good_from (list_with list i a) (length_overwritten list (le4 a) (4 * i) (omega arith) ∙ l)
    (bytes_append (take (4 * i) list) _ (bytes_take (4 * i) list k) (bytes_append (le4 a) _ (bytes_le4 a) (bytes_drop (4 * i + 4) list k)))

-- empty blocks
pub count_empty : count_in empty_page ≡ 0
count_empty = rw (getD_many page_size 1, getD_many page_size 2, getD_many page_size 3, getD_many page_size 4)

pub flag_empty : flag_in empty_page ≡ 0
flag_empty = getD_many page_size 0

pub listed_empty : (i : ℕ) → listed empty_page i ≡ 0
listed_empty i = rw (getD_many page_size (4 * i), getD_many page_size (4 * i + 1), getD_many page_size (4 * i + 2), getD_many page_size (4 * i + 3))

-- header and list together
below_from : (list : Page) (pages n : ℕ) → ((i : ℕ) → i < n → listed list i < pages) → listed_below list pages n ≡ true
unfolding listed_below
below_from list pages zero h = refl
below_from list pages (suc n) h = and_from _ _ (below_from list pages n (λ i q. h i (omega arith))) (lt-ltb _ _ (h n (omega arith)))

above_from : (list : Page) (pages n k : ℕ) → k < n → pages ≤ listed list k → listed_below list pages n ≡ false
unfolding listed_below
above_from list pages zero k h l = absurd (omega arith)
above_from list pages (suc n) k h l = last (cases_order k n) (λ q. above_from list pages n k q l)
  where
    last : (k ≡ n) ⊎ ((k < n) ⊎ (n < k)) → (k < n → listed_below list pages n ≡ false) → listed_below list pages (suc n) ≡ false
    last (inl e) f = rw (← e, le-ltb (listed list k) pages l, and-false (listed_below list pages k))
    last (inr (inl q)) f = rw (f q)
    last (inr (inr q)) f = absurd (omega arith)

-- what looking at each of the first pages tells
pub below_is :
    (list : Page) (pages n : ℕ) (r : Bool) →
    MatchBool r (AllWithin (λ i. listed list i < pages) (range_with_len 0 n) 0 (length (range_with_len 0 n)))
    ((k : ℕ) × (k < length (range_with_len 0 n)) × HoldsAt (λ i. pages ≤ listed list i) (range_with_len 0 n) k) →
    r ≡ listed_below list pages n
below_is list pages n true h =
    sym (below_from list pages n (λ i q. subst (λ (z : ℕ). listed list z < pages) (at_place i q) (h i 0 (omega arith) (rw (length-range_with_len 0 n) q))))
  where
    at_place : (i : ℕ) → i < n → slice_index_or (range_with_len 0 n) i 0 ≡ i
    at_place i q = get_or-range_with_len 0 n i 0 q ∙ zero-add i
below_is list pages n false (k, q, h) =
    let l : k < n = subst (λ (z : ℕ). k < z) (length-range_with_len 0 n) q in
    let e : slice_index_or (range_with_len 0 n) k 0 ≡ k = get_or-range_with_len 0 n k 0 l ∙ zero-add k in
    sym (above_from list pages n k l (subst (λ (z : ℕ). pages ≤ listed list z) e (h 0)))

module _ (header list : Page) (pages : ℕ) (flag : flag_in header ≤ 1) (few : count_in header ≤ room) (inside : (i : ℕ) → i < room → listed list i < pages) where
  pub sane_from : sane header list pages ≡ true
  sane_from = and_from _ _ (and_from _ _ (le-leb _ _ flag) (le-leb _ _ few)) (below_from list pages (count_in header) (λ i q. inside i (omega arith)))

  pub log_holds_is : log_holds header list pages ≡ holds_in header
  log_holds_is = cond-true _ _ _ sane_from

  pub log_count_is : log_count header list pages ≡ count_in header
  log_count_is = cond-true _ _ _ sane_from

-- whatever the two blocks hold
pub log_count_few : (header list : Page) (pages : ℕ) → log_count header list pages ≤ room
log_count_few header list pages = go (sane header list pages) refl
  where
    go : (t : Bool) → sane header list pages ≡ t → cond t (count_in header) 0 ≤ room
    go true e = leb-true _ _ (and_parts _ _ (and_parts _ _ e).0).1
    go false e = omega arith

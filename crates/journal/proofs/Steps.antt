-- The steps of a plan by their number: how many there are, and which is the i-th of a replay and of making.
use Rattle.std.proofs.Common.{◌≡◌, ℕ, zero, suc, ◌+◌, ◌<◌, ◌≤◌, List, [], ◌∷◌, ◌++◌, length, Some, None, refl, ap, ◌∙◌, add-zero, zero-add, arith}
use Rattle.std.specs.List.{slice_get as item}
use Rattle.model.specs.Book.{Page, empty_page}
use Rattle.model.specs.Plain.{Put}
use Rattle.journal.specs.Journal.{entry, entries_from, blank_puts}

pub length_entries : (b : List Page) (i n : ℕ) → length (entries_from b i n) ≡ n
unfolding entries_from
length_entries b i zero = refl
length_entries b i (suc n) = ap suc (length_entries b (suc i) n)

pub length_blanks : (i k : ℕ) → length (blank_puts i k) ≡ k
unfolding blank_puts
length_blanks i zero = refl
length_blanks i (suc k) = ap suc (length_blanks (suc i) k)

-- the log's writes and one step more
entry_from : (b : List Page) (y : Put) (i n j : ℕ) → j < n → item (entries_from b i n ++ (y ∷ [])) j ≡ Some (entry b (i + j))
unfolding entries_from
entry_from b y i zero j h = absurd (omega arith)
entry_from b y i (suc n) zero h = rw (add-zero i)
entry_from b y i (suc n) (suc j) h = let e : i + suc j ≡ suc i + j = omega arith in rw e (entry_from b y (suc i) n j (omega arith))

pub entry_item : (b : List Page) (y : Put) (n j : ℕ) → j < n → item (entries_from b 0 n ++ (y ∷ [])) j ≡ Some (entry b j)
entry_item b y n j h = entry_from b y 0 n j h ∙ ap (λ k. Some (entry b k)) (zero-add j)

last_from : (b : List Page) (y : Put) (i n : ℕ) → item (entries_from b i n ++ (y ∷ [])) n ≡ Some y
unfolding entries_from
last_from b y i zero = refl
last_from b y i (suc n) = last_from b y (suc i) n

pub last_item : (b : List Page) (y : Put) (n j : ℕ) → j ≡ n → item (entries_from b 0 n ++ (y ∷ [])) j ≡ Some y
last_item b y n j e = ap (item (entries_from b 0 n ++ (y ∷ []))) e ∙ last_from b y 0 n

past_from : (b : List Page) (y : Put) (i n j : ℕ) → n < j → item (entries_from b i n ++ (y ∷ [])) j ≡ None
unfolding entries_from
past_from b y i zero zero h = absurd (omega arith)
past_from b y i zero (suc j) h = refl
past_from b y i (suc n) zero h = absurd (omega arith)
past_from b y i (suc n) (suc j) h = past_from b y (suc i) n j (omega arith)

pub past_item : (b : List Page) (y : Put) (n j : ℕ) → n < j → item (entries_from b 0 n ++ (y ∷ [])) j ≡ None
past_item b y n j h = past_from b y 0 n j h

-- empty blocks
blank_from : (i k j : ℕ) → j < k → item (blank_puts i k) j ≡ Some (record { block = i + j; content = empty_page })
unfolding blank_puts
blank_from i zero j h = absurd (omega arith)
blank_from i (suc k) zero h = rw (add-zero i)
blank_from i (suc k) (suc j) h = let e : i + suc j ≡ suc i + j = omega arith in rw e (blank_from (suc i) k j (omega arith))

pub blank_item : (k j : ℕ) → j < k → item (blank_puts 0 k) j ≡ Some (record { block = j; content = empty_page })
blank_item k j h = blank_from 0 k j h ∙ ap (λ n. Some (record { block = n; content = empty_page })) (zero-add j)

past_blank : (i k j : ℕ) → k ≤ j → item (blank_puts i k) j ≡ None
unfolding blank_puts
past_blank i zero j h = refl
past_blank i (suc k) zero h = absurd (omega arith)
past_blank i (suc k) (suc j) h = past_blank (suc i) k j (omega arith)

pub no_blank : (k j : ℕ) → k ≤ j → item (blank_puts 0 k) j ≡ None
no_blank k j h = past_blank 0 k j h

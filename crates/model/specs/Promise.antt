-- What is promised of a program over disks: whatever happens, a book explains it. Definitions only.
use Rattle.std.specs.Prelude.{◌≡◌, ℕ, zero, suc, ◌+◌, ◌≤◌, Bool, true, false, cond, ◌&&◌, List, [], ◌∷◌, ◌==◌, nat_lt}
use Rattle.model.specs.Numbers.{most_pages}
use Rattle.model.specs.Book.{Page, Call, Limits, Book, new_book, answer, after, dropped}
use Rattle.model.specs.Disks.{Medium, Program, Happening, was_told, was_cut, power_went, World, Lived}

-- a number of pages from 1 to most_pages, and the calls that a stage can do
abbrev pub GoodLimits : (ℕ → Bool) → Limits → Type 0
GoodLimits can l = (1 ≤ l.pages) × (l.pages ≤ most_pages) × ((k : ℕ) → l.calls_can k ≡ can k)

-- a register without size: it reads, writes and closes, and refuses size by 2
abbrev pub thin : ℕ → Bool
thin k = nat_lt k 3

abbrev pub all : ℕ → Bool
all k = true

-- from one book to another by what happened: each answer is the one that the book gives; of a call that
-- was cut all is done or nothing; and with power goes what waited
pub data Leads (l : Limits) (o : Book) : List Happening → Book → Type 0 where
  at_first : Leads l o [] o
  told : {hs : List Happening} {b : Book} (c : Call) → Leads l o hs b → Leads l o (was_told c (answer l b c) ∷ hs) (after l b c)
  cut_late : {hs : List Happening} {b : Book} (c : Call) → Leads l o hs b → Leads l o (was_cut c ∷ hs) (dropped (after l b c))
  cut_early : {hs : List Happening} {b : Book} (c : Call) → Leads l o hs b → Leads l o (was_cut c ∷ hs) (dropped b)
  gone : {hs : List Happening} {b : Book} → Leads l o hs b → Leads l o (power_went ∷ hs) (dropped b)

-- a book that explains what happened since the disks were made
abbrev pub Explains : Limits → List Happening → Book → Type 0
Explains l hs b = Leads l (new_book l.pages) hs b

-- THE MAIN PROMISE: whatever happens, whenever power goes and whichever disk dies when, there is a book
-- that explains every answer. It is for all calls, also ones that no bytes could carry
unfoldable pub Right : {S I : Type 0} → Medium S I → (ℕ → Bool) → Program I → Type 0
Right {S} {I} M can f = (l : Limits) (w : World S I) → GoodLimits can l → Lived M f l w → (b : Book) × Explains l w.past b

-- the blocks of a disk from the k-th on
unfoldable pub from_block : ℕ → List Page → List Page
from_block zero bs = bs
from_block (suc n) [] = []
from_block (suc n) (b ∷ bs) = from_block n bs

unfoldable pub same_page : Page → Page → Bool
same_page [] [] = true
same_page [] (y ∷ ys) = false
same_page (x ∷ xs) [] = false
same_page (x ∷ xs) (y ∷ ys) = x == y && same_page xs ys

-- in how many blocks two disks differ
unfoldable pub differ : List Page → List Page → ℕ
differ [] ys = 0
differ (x ∷ xs) [] = 0
differ (x ∷ xs) (y ∷ ys) = cond (same_page x y) 0 1 + differ xs ys

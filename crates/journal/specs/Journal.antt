-- The journal on one logical disk: what a call and recovery put there, in order. Definitions only.
--
-- Block 0 is the header, block 1 the list of the log's pages, then the log, then the pages. A write goes
-- into the log; a close first writes the header as holding, then brings each page of the log to its
-- place, then empties the header. So one block decides whether the close happened.
use Rattle.std.specs.Prelude.{ℕ, zero, suc, ◌+◌, ◌-◌, Bool, true, false, cond, List, [], ◌∷◌, ◌++◌, length, ◌==◌}
use Rattle.model.specs.Numbers.{first_page}
use Rattle.model.specs.Book.{Page, empty_page, nth, Call, read, write, close, size, garbled, Limits, Book, turned}
use Rattle.model.specs.Plain.{Put}
use Rattle.model.specs.Promise.{from_block}
use Rattle.layout.specs.Header.{header_block}
use Rattle.layout.specs.PageList.{listed, list_with}
use Rattle.layout.specs.Reading.{log_holds, log_count}

-- how many pages a disk of these blocks has
abbrev pub pages_of : List Page → ℕ
pages_of b = length b - first_page

-- whether the log on a disk holds, and how many writes are in it
abbrev pub holds : List Page → Bool
holds b = log_holds (nth b 0) (nth b 1) (pages_of b)

abbrev pub count : List Page → ℕ
count b = log_count (nth b 0) (nth b 1) (pages_of b)

-- the i-th write of the log, as it goes to its page
abbrev pub entry : List Page → ℕ → Put
entry b i = record { block = first_page + listed (nth b 1) i; content = nth b (2 + i) }

-- n writes of the log from the i-th on
unfoldable pub entries_from : List Page → ℕ → ℕ → List Put
entries_from b i zero = []
entries_from b i (suc n) = entry b i ∷ entries_from b (suc i) n

abbrev pub entries : List Page → List Put
entries b = entries_from b 0 (count b)

abbrev pub header_put : Bool → ℕ → Put
header_put h n = record { block = 0; content = header_block h n }

-- recovery: if the log holds, each of its pages, in order; then the empty header
abbrev pub recovery : List Page → List Put
recovery b = cond (holds b) (entries b) [] ++ (header_put false 0 ∷ [])

-- what a call puts, if it is taken
unfoldable pub call_puts : List Page → Call → List Put
call_puts b (read a) = []
call_puts b (write a p) =
    header_put false (suc (count b)) ∷ record { block = 1; content = list_with (nth b 1) (count b) a } ∷ record { block = 2 + count b; content = p } ∷ []
call_puts b close = header_put true (count b) ∷ (entries b ++ (header_put false 0 ∷ []))
call_puts b size = []
call_puts b (garbled n) = []

-- the book as far as a disk at rest shows it: the pages that hold, and how many writes wait
abbrev pub book_of : List Page → Book
book_of b = record { old = from_block first_page b; new = from_block first_page b; waiting = count b }

-- what a call puts: nothing, if it is refused
abbrev pub puts_of : Limits → List Page → Call → List Put
puts_of l b c = cond (turned l (book_of b) c == 0) (call_puts b c) []

-- k empty blocks, from the i-th on
unfoldable pub blank_puts : ℕ → ℕ → List Put
blank_puts i zero = []
blank_puts i (suc k) = record { block = i; content = empty_page } ∷ blank_puts (suc i) k

-- The book: pages, what is asked of them, and what is answered. Definitions only.
--
-- This is the register as a clerk sees it, with no disk in it. A write waits until it is closed; a close
-- makes all that waits hold at once; a read has what holds. What the disks do is explained by such a book.
use Rattle.std.specs.Prelude.{ℕ, zero, suc, Bool, true, cond, ◌&&◌, ◌||◌, List, [], ◌∷◌, length, ◌==◌, nat_lt}
use Rattle.model.specs.Numbers.{page_size, room}

-- a page is a list of bytes; a good one has page_size of them
abbrev pub Page : Type 0
Page = List ℕ

unfoldable pub many : {A : Type 0} → ℕ → A → List A
many zero a = []
many (suc n) a = a ∷ many n a

abbrev pub empty_page : Page
empty_page = many page_size 0

-- the n-th page, and an empty one past the end
unfoldable pub nth : List Page → ℕ → Page
nth [] n = empty_page
nth (x ∷ xs) zero = x
nth (x ∷ xs) (suc n) = nth xs n

-- the n-th page replaced; nothing past the end
unfoldable pub set_page : List Page → ℕ → Page → List Page
set_page [] n p = []
set_page (x ∷ xs) zero p = p ∷ xs
set_page (x ∷ xs) (suc n) p = x ∷ set_page xs n p

unfoldable pub bytes : List ℕ → Bool
bytes [] = true
bytes (x ∷ xs) = nat_lt x 256 && bytes xs

abbrev pub good_page : Page → Bool
good_page p = length p == page_size && bytes p

pub data Call : Type 0 where
  read : ℕ → Call
  write : ℕ → Page → Call  -- holds when it is closed
  close : Call  -- all that was written holds from now on, or nothing of it
  size : Call
  garbled : ℕ → Call  -- bytes that are no call, and where they cease to be one

pub data Answer : Type 0 where
  refused : ℕ → ℕ → Answer  -- the refusal's number and its place
  done : Answer
  page : Page → Answer
  number : ℕ → Answer

-- pages that hold, pages as they will be after a close, and how many writes wait
pub record Book : Type 0 where
  pub old : List Page
  pub new : List Page
  pub waiting : ℕ

abbrev pub new_book : ℕ → Book
new_book n = record { old = many n empty_page; new = many n empty_page; waiting = 0 }

-- which calls a register knows, and how many pages it has
pub record Limits : Type 0 where
  pub calls_can : ℕ → Bool
  pub pages : ℕ

-- the number by which a call is known in its bytes; 255 stands for no call
unfoldable pub call_number : Call → ℕ
call_number (read a) = 0
call_number (write a p) = 1
call_number close = 2
call_number size = 3
call_number (garbled n) = 255

unfoldable pub good_fields : Call → Bool
good_fields (read a) = true
good_fields (write a p) = good_page p
good_fields close = true
good_fields size = true
good_fields (garbled n) = true

-- refusals: 1 no call; 2 not a page's bytes, or a call that this register can't do; 3 a page that is not
-- there; 4 a write when the log is full. The first that applies is the one that is told; 0 is none
unfoldable pub turned_by : Limits → Book → Call → ℕ
turned_by l b (read a) = cond (nat_lt a l.pages) 0 3
turned_by l b (write a p) = cond (nat_lt a l.pages) (cond (nat_lt b.waiting room) 0 4) 3
turned_by l b close = 0
turned_by l b size = 0
turned_by l b (garbled n) = 1

abbrev pub turned : Limits → Book → Call → ℕ
turned l b c = cond ((call_number c == 255 || l.calls_can (call_number c)) && good_fields c) (turned_by l b c) 2

-- the place that a refusal tells
unfoldable pub place : Call → ℕ
place (garbled k) = k
place (read a) = 0
place (write a p) = 0
place close = 0
place size = 0

-- what is answered to a call that is taken: reading has what holds, not what waits
unfoldable pub told : Limits → Book → Call → Answer
told l b (read a) = page (nth b.old a)
told l b (write a p) = done
told l b close = done
told l b size = number l.pages
told l b (garbled n) = done

-- the book after a call that is taken
unfoldable pub changed : Book → Call → Book
changed b (read a) = b
changed b (write a p) = record { old = b.old; new = set_page b.new a p; waiting = suc b.waiting }
changed b close = record { old = b.new; new = b.new; waiting = 0 }
changed b size = b
changed b (garbled n) = b

abbrev pub answer : Limits → Book → Call → Answer
answer l b c = cond (turned l b c == 0) (told l b c) (refused (turned l b c) (place c))

abbrev pub after : Limits → Book → Call → Book
after l b c = cond (turned l b c == 0) (changed b c) b

-- what power leaves: all that holds, nothing that waited
abbrev pub dropped : Book → Book
dropped b = record { old = b.old; new = b.old; waiting = 0 }

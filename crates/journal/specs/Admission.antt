-- The refusals, as the code checks them: first what a call alone shows, then what the log shows.
-- Definitions only.
use Rattle.std.specs.Prelude.{◌≡◌, ℕ, true, cond, length, ◌==◌, nat_lt}
use Rattle.model.specs.Numbers.{page_size, room}
use Rattle.model.specs.Book.{Page, bytes, Call, read, write, close, size, garbled, Limits, Book, turned}
use Rattle.model.specs.Promise.{all}

-- the refusal that a call meets before the log is looked at, 0 for none, where there are so many pages
abbrev pub early : ℕ → Call → ℕ
early pages (read a) = cond (nat_lt a pages) 0 3
early pages (write a p) = cond (length p == page_size) (cond (nat_lt a pages) 0 3) 2
early pages close = 0
early pages size = 0
early pages (garbled k) = 1

-- the refusal of an admitted call when so many writes wait
abbrev pub late : ℕ → Call → ℕ
late waiting (read a) = 0
late waiting (write a p) = cond (nat_lt waiting room) 0 4
late waiting close = 0
late waiting size = 0
late waiting (garbled k) = 0

-- a block that has the bytes that come with a call, if any do
abbrev pub Gives : Call → Page → Type 0
Gives (read a) given = Unit {0}
Gives (write a p) given = given ≡ p
Gives close given = Unit {0}
Gives size given = Unit {0}
Gives (garbled k) given = Unit {0}

-- a call whose page is made of bytes, as any that came in bytes is
abbrev pub InBytes : Call → Type 0
InBytes (read a) = Unit {0}
InBytes (write a p) = bytes p ≡ true
InBytes close = Unit {0}
InBytes size = Unit {0}
InBytes (garbled k) = Unit {0}

-- together they are the book's refusals, in the book's order
abbrev pub RefusalsAre : Type 0
RefusalsAre =
    (l : Limits) (b : Book) (c : Call) → ((k : ℕ) → l.calls_can k ≡ all k) → InBytes c →
    turned l b c ≡ cond (early l.pages c == 0) (late b.waiting c) (early l.pages c)

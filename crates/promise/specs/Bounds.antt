-- How much the register writes, and where. Definitions only.
use Rattle.std.specs.Prelude.{◌≡◌, ℕ, ◌+◌, ◌-◌, ◌*◌, ◌<◌, ◌≤◌, true, cond, ◌&&◌, List, [], ◌∷◌, length, ◌==◌}
use Rattle.model.specs.Numbers.{room, first_page, copies}
use Rattle.model.specs.Book.{Page, good_page, Call, read, write, close, size, garbled, Limits, turned}
use Rattle.model.specs.Disks.{On, View, World, Lived}
use Rattle.model.specs.Plain.{Put, plain}
use Rattle.model.specs.Statements.{GoodSize}
use Rattle.mirror.specs.Mirror.{source, resync}
use Rattle.journal.specs.Journal.{holds, count, book_of}
use Rattle.promise.specs.Register.{recovery_writes, register}

-- each of these writes is of a good page, on one of k disks, within a disk for n pages
abbrev pub WithinDisks : ℕ → ℕ → List (On Put) → Type 0
WithinDisks k n [] = Unit {0}
WithinDisks k n (x ∷ xs) = ((x.disk < k) × (x.item.block < n + first_page) × (good_page x.item.content ≡ true)) × WithinDisks k n xs

-- at any moment nothing is kept in memory for the next call, and all that is to be written is within the disks
unfoldable pub StaysWithin : Type 0
StaysWithin =
    (l : Limits) (w : World (List Page) Put) → GoodSize l → Lived plain register l w → (w.memory ≡ []) × WithinDisks (length w.disks) l.pages w.todo

-- how many of these writes are of block j on disk i
unfoldable pub times : ℕ → ℕ → List (On Put) → ℕ
times i j [] = 0
times i j (x ∷ xs) = cond (i == x.disk && j == x.item.block) 1 0 + times i j xs

-- making writes every block of every disk once, and nothing else
unfoldable pub MakesEachOnce : Type 0
MakesEachOnce =
    (k n : ℕ) → (length (register.makes k n) ≡ k * (n + first_page)) × WithinDisks k n (register.makes k n) × ((i j : ℕ) → i < k → j < n + first_page → times i j (register.makes k n) ≡ 1)

-- how many blocks a call that is taken puts on each disk, with n writes in the log
unfoldable pub call_length : ℕ → Call → ℕ
call_length n (read a) = 0
call_length n (write a p) = 3
call_length n close = 2 + n
call_length n size = 0
call_length n (garbled k) = 0

-- the exact number of a call's writes, whatever the disks hold
unfoldable pub CallCounts : Type 0
CallCounts =
    (l : Limits) (m : List ℕ) (d : View) (c : Call) →
    length (register.writes l m d c) ≡ length d * cond (turned l (book_of (source d)) c == 0) (call_length (count (source d)) c) 0

-- the exact number of a recovery's writes, whatever the disks hold, with one copy at most to each disk but
-- the source
unfoldable pub RecoveryCounts : Type 0
RecoveryCounts =
    (d : View) →
    (length (recovery_writes d) ≡ length (resync 0 (source d) d) + length d * cond (holds (source d)) (count (source d) + 1) 1) × (length (resync 0 (source d) d) ≤ length d - 1)

-- the most that a call writes, 516 blocks, and a recovery, 515
abbrev pub most_call_writes : ℕ
most_call_writes = copies * (2 + room)

abbrev pub most_recovery_writes : ℕ
most_recovery_writes = copies * (1 + room) + (copies - 1)

unfoldable pub StaysBounded : Type 0
StaysBounded =
    (d : View) → length d ≡ copies →
    (length (recovery_writes d) ≤ most_recovery_writes) × ((l : Limits) (m : List ℕ) (c : Call) → length (register.writes l m d c) ≤ most_call_writes)

-- Why a page of the log may be read when it is written, and not when the plan was made. Definitions only.
use Rattle.std.specs.Prelude.{◌≡◌, ℕ, ◌<◌, ◌≤◌, true, List, ◌∷◌}
use Rattle.model.specs.Numbers.{first_page}
use Rattle.model.specs.Book.{Page, nth, Limits}
use Rattle.model.specs.Disks.{On, World, Lived}
use Rattle.model.specs.Plain.{Put, plain}
use Rattle.model.specs.Statements.{GoodSize, AllLive}
use Rattle.layout.specs.Reading.{sane}
use Rattle.journal.specs.Journal.{holds, count, entry, pages_of}
use Rattle.promise.specs.Register.{register}

-- at any moment, where the log holds on a living disk, list and log are the same on every other
unfoldable pub LogSame : Type 0
LogSame =
    (l : Limits) (w : World (List Page) Put) → GoodSize l → Lived plain register l w →
    AllLive (λ s. AllLive (λ t. holds s ≡ true → (j : ℕ) → 0 < j → j < first_page → nth s j ≡ nth t j) w.disks) w.disks

-- a page that is to be written next is a write of the log, as every living disk has it now
unfoldable pub ReadsLate : Type 0
ReadsLate =
    (l : Limits) (w : World (List Page) Put) (x : On Put) (xs : List (On Put)) → GoodSize l → Lived plain register l w → w.todo ≡ x ∷ xs → first_page ≤ x.item.block →
    (i : ℕ) × AllLive (λ s. (holds s ≡ true) × (i < count s) × (x.item ≡ entry s i)) w.disks

-- at any moment each living disk has a header that a register of so many pages may have written; so a start
-- that refuses any other header refuses no disk that a register left
unfoldable pub HeadersSane : Type 0
HeadersSane =
    (l : Limits) (w : World (List Page) Put) → GoodSize l → Lived plain register l w → AllLive (λ s. sane (nth s 0) (nth s 1) (pages_of s) ≡ true) w.disks

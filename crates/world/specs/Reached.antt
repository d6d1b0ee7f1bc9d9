-- Worlds that can be reached, as the world in memory keeps them. Definitions only.
--
-- What is still to be written is known by the blocks b that the work was worked out by: a page of the log is
-- read late, from a disk that lives, and the living disks have the log of b until then.
use Rattle.std.specs.Prelude.{◌≡◌, ℕ, Bool, true, List, [], ◌∷◌, drop}
use Rattle.model.specs.Book.{Page, nth}
use Rattle.model.specs.Disks.{On, Happening, Under, Lived}
use Rattle.model.specs.Plain.{Put, plain}
use Rattle.model.specs.Statements.{GoodSize}
use Rattle.promise.specs.Register.{register}
use Rattle.device.specs.Ran.{Both, view, one_lives}
use Rattle.journal.specs.Plans.{replays}
use Rattle.engine.specs.declared.work.Work.{Work}
use Rattle.engine.specs.Works.{work_writes}
use Rattle.engine.specs.Doing.{LogSame, Copies}
use Rattle.engine.specs.Calling.{limits}
use Rattle.engine.specs.Living.{Explained}

-- what is written next on the second disk is held already
abbrev pub HeldFor : List (On Put) → Page → Type 0
HeldFor [] held = Unit {0}
HeldFor (p ∷ ps) held = p.disk ≡ 1 → held ≡ p.item.content

-- b tells what the rest of a work writes, after k writes
abbrev pub GoesBy : Both → Work → ℕ → Page → List Page → Type 0
GoesBy d w k held b =
    (nth b 1 ≡ w.list) × (replays w.plan ≡ true → LogSame (view d) b) × Copies w.copy w.block b × HeldFor (drop k (work_writes w b)) held

-- the model's world of n pages, with the rest of a work to write
abbrev pub LivedBy : ℕ → Both → Bool → Work → ℕ → List Under → List Happening → List Page → Type 0
LivedBy n d up w k under past b =
    Lived plain register (limits n) (record { disks = view d; memory = []; up = up; todo = drop k (work_writes w b); under = under; past = past })

-- a world that can be reached, as long as one disk lives; and whether one lives or not, a book explains what
-- happened
abbrev pub Reached : Both → ℕ → Bool → Work → ℕ → Page → List Under → List Happening → Type 0
Reached d n up w k held under past =
    GoodSize (limits n) × Explained n past × (one_lives d ≡ true → (b : List Page) × GoesBy d w k held b × LivedBy n d up w k under past b)

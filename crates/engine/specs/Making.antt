-- What making new disks writes, and what it makes of two disks of which all is known. Definitions only.
use Rattle.std.specs.Prelude.{◌≡◌, ℕ, ◌<◌, ◌≤◌, Bool, false, ◌⊎◌, List, Some, None, Option}
use Rattle.model.specs.Numbers.{most_pages, copies}
use Rattle.model.specs.Book.{Page}
use Rattle.device.specs.Ran.{Ran, Both, view, one_lives}
use Rattle.journal.specs.Plans.{replays}
use Rattle.promise.specs.Register.{register}
use Rattle.engine.specs.declared.work.Work.{Work}
use Rattle.engine.specs.Works.{work_writes}

-- a number of pages that no register has
abbrev pub NoRegister : ℕ → Type 0
NoRegister pages = (pages ≡ 0) ⊎ (most_pages < pages)

-- what the model writes, whatever the disks hold, for every number of pages that a register may have and
-- for no other; nothing of it is read off a log or copied
abbrev pub Makes : ℕ → Option Work → Type 0
Makes pages None = NoRegister pages
Makes pages (Some w) =
    (1 ≤ pages) × (pages ≤ most_pages) × ((b : List Page) → work_writes w b ≡ register.makes copies pages) × (replays w.plan ≡ false) × (w.copy ≡ None)

-- a whole making, of a number of pages that a register may have: all its writes in order, with deaths
-- before, between and after them
abbrev pub Made : Option Both → Option Both → ℕ → Bool → Type 0
Made before after pages r =
    (d : Both) → before ≡ Some d → 1 ≤ pages → pages ≤ most_pages →
    (e : Both) × (after ≡ Some e) × Ran (register.makes copies pages) (view d) (view e) × (r ≡ one_lives e)

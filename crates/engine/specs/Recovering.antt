-- What recovery finds on two disks of which all is known, and what it makes of them. Definitions only.
--
-- Power may have gone between the two writes of one block. So both disks are read through, in pieces, and
-- the highest block in which they differ is copied from the first to the second. A disk may die at any of
-- the reads; from then on the other alone is gone by, and nothing is copied.
use Rattle.std.specs.Prelude.{◌≡◌, ℕ, suc, ◌+◌, ◌/◌, ◌<◌, ◌≤◌, min, Bool, true, false, List, [], ◌∷◌, length, Some, None, Option, Ok, Err, Result, ◌≢◌}
use Rattle.model.specs.Numbers.{page_size, first_page}
use Rattle.model.specs.Book.{Page, nth}
use Rattle.model.specs.Disks.{seen}
use Rattle.model.specs.Plain.{Put}
use Rattle.mirror.specs.Mirror.{highest, source}
use Rattle.device.specs.Blocks.{Shows}
use Rattle.device.specs.Ran.{Ran, Both, view, one_lives, both_live}
use Rattle.journal.specs.Journal.{holds, recovery}
use Rattle.journal.specs.Plans.{replays, plan_puts}
use Rattle.promise.specs.Register.{recovery_writes}
use Rattle.device.specs.declared.Dead.{Dead}
use Rattle.engine.specs.declared.work.Work.{Work}
use Rattle.engine.specs.Works.{work_writes}
use Rattle.engine.specs.Doing.{LogSame, Copies}

-- f and g, blocks by their number, are the same from the i-th block to before the j-th
abbrev pub SameBetween : (ℕ → Page) → (ℕ → Page) → ℕ → ℕ → Type 0
SameBetween f g i j = (k : ℕ) → i ≤ k → k < j → f k ≡ g k

-- the highest of these blocks in which f and g differ; None where they are all the same
abbrev pub Highest : (ℕ → Page) → (ℕ → Page) → ℕ → ℕ → Option ℕ → Type 0
Highest f g i j None = SameBetween f g i j
Highest f g i j (Some k) = (i ≤ k) × (k < j) × (f k ≢ g k) × SameBetween f g (suc k) j

-- how many whole blocks both of two pieces have
abbrev pub blocks_in : List ℕ → List ℕ → ℕ
blocks_in p q = min (length p) (length q) / page_size

-- what a piece of n blocks shows, from d to e; kept: the first disk's block, where they differ
abbrev pub PieceMeans : Both → Both → ℕ → ℕ → Result (Option ℕ) Dead → Page → Page → Type 0
PieceMeans d e from n (Err x) was kept = both_live e ≡ false
PieceMeans d e from n (Ok None) was kept = (both_live e ≡ true) × (e ≡ d) × (kept ≡ was) × Highest (nth d.first.has) (nth d.second.has) from (from + n) None
PieceMeans d e from n (Ok (Some k)) was kept =
    (both_live e ≡ true) × (e ≡ d) × (kept ≡ nth d.first.has k) × Highest (nth d.first.has) (nth d.second.has) from (from + n) (Some k)

abbrev pub PieceRead : Option Both → Option Both → ℕ → ℕ → Result (Option ℕ) Dead → Page → Page → Type 0
PieceRead before after from n r was kept =
    (d : Both) → before ≡ Some d → (e : Both) × (after ≡ Some e) × Ran [] (view d) (view e) × PieceMeans d e from n r was kept

-- the first n blocks read by now; where one of the disks was dead from the start, nothing is to be copied
abbrev pub ReadThrough : Option Both → Option Both → ℕ → Option ℕ → Page → Type 0
ReadThrough before after n r kept =
    (d : Both) → before ≡ Some d →
    (after ≡ Some d) × (both_live d ≡ false → r ≡ None) × Highest (nth d.first.has) (nth d.second.has) 0 n r × Copies r kept d.first.has

-- disks of so many pages
abbrev pub OfPages : ℕ → Both → Type 0
OfPages pages d = (length d.first.has ≡ pages + first_page) × (length d.second.has ≡ pages + first_page)

abbrev pub copy_put : Option ℕ → Page → List Put
copy_put None kept = []
copy_put (Some k) kept = record { block = k; content = kept } ∷ []

-- both disks read through: what is to be copied is what the model copies, and nothing if one of them is dead
abbrev pub Scanned : Option Both → Option Both → ℕ → Option ℕ → Page → Type 0
Scanned before after pages r kept =
    (d : Both) → before ≡ Some d → OfPages pages d →
    (e : Both) × (after ≡ Some e) × Ran [] (view d) (view e)
    × (both_live e ≡ true → (e ≡ d) × (copy_put r kept ≡ highest 0 d.first.has d.second.has) × Copies r kept d.first.has) × (both_live e ≡ false → r ≡ None)

-- the blocks of the disk that is gone by
abbrev pub source_of : Both → List Page
source_of d = source (seen (λ b. b) (view d))

-- a work that recovers any disk whose header and list were read
abbrev pub WorksOut : List ℕ → ℕ → Work → Type 0
WorksOut log pages w =
    (b : List Page) → Shows log b 0 → length b ≡ pages + first_page →
    (nth b 1 ≡ w.list) × (plan_puts w.plan w.block b ≡ recovery b) × (replays w.plan ≡ true → holds b ≡ true)

-- the work is the model's recovery of the disks as they are when it begins
abbrev pub Begins : Both → Option Work → Type 0
Begins e None = one_lives e ≡ false
Begins e (Some w) =
    (one_lives e ≡ true) × (work_writes w (source_of e) ≡ recovery_writes (seen (λ b. b) (view e))) × (nth (source_of e) 1 ≡ w.list)
    × Copies w.copy w.block (source_of e) × (replays w.plan ≡ true → holds (source_of e) ≡ true)

abbrev pub RecoveryBegun : Option Both → Option Both → ℕ → Option Work → Type 0
RecoveryBegun before after pages r =
    (d : Both) → before ≡ Some d → OfPages pages d → (e : Both) × (after ≡ Some e) × Ran [] (view d) (view e) × Begins e r

-- a log that holds is the same on all disks that live, wherever deaths lead from d
abbrev pub LogAgrees : Both → Type 0
LogAgrees d = (e : Both) → Ran [] (view d) (view e) → holds (source_of e) ≡ true → LogSame (view e) (source_of e)

-- a whole recovery: disks may die while all is read, then the writes are the model's for what is left
abbrev pub Recovered : Option Both → Option Both → ℕ → Bool → Type 0
Recovered before after pages r =
    (d : Both) → before ≡ Some d → OfPages pages d → LogAgrees d →
    (e f : Both) × Ran [] (view d) (view e) × (after ≡ Some f) × Ran (recovery_writes (seen (λ b. b) (view e))) (view e) (view f) × (r ≡ one_lives f)

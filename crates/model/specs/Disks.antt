-- Disks, a program over them, and everything that can happen. Definitions only.
--
-- A disk is of some kind: what its state is, what an item that is written does to it, what reading shows,
-- and what power leaves of it. The register's disks are of the plain kind, on which a written block lasts;
-- a disk with a cache would be another kind. The disks are a list, of which one at least lives.
use Rattle.std.specs.Prelude.{◌≡◌, ℕ, suc, Bool, true, false, cond, ◌||◌, List, [], ◌∷◌, length, ◌==◌}
use Rattle.model.specs.Book.{Page, Call, Answer, Limits}

-- one disk: its state, and whether it lives
pub record Disk (S : Type 0) : Type 0 where
  pub has : S
  pub lives : Bool

-- one item for one disk, by the disk's number
pub record On (I : Type 0) : Type 0 where
  pub disk : ℕ
  pub item : I

-- a kind of disk: what writing an item makes of its state, the blocks that reading shows, which states
-- power may leave, and which ones can be made into a new register of so many pages
pub record Medium (S I : Type 0) : Type 1 where
  pub step : I → S → S
  pub look : S → List Page
  pub falls : S → S → Type 0
  pub fits : ℕ → S → Type 0

abbrev pub on : {I : Type 0} → ℕ → I → On I
on k x = record { disk = k; item = x }

-- a write to a disk that died does nothing
abbrev pub wrote_one : {S I : Type 0} → (I → S → S) → I → Disk S → Disk S
wrote_one step x d = record { has = cond d.lives (step x d.has) d.has; lives = d.lives }

unfoldable pub wrote_from : {S I : Type 0} → (I → S → S) → ℕ → On I → List (Disk S) → List (Disk S)
wrote_from step i w [] = []
wrote_from step i w (d ∷ ds) = cond (i == w.disk) (wrote_one step w.item d) d ∷ wrote_from step (suc i) w ds

abbrev pub wrote : {S I : Type 0} → (I → S → S) → On I → List (Disk S) → List (Disk S)
wrote step w ds = wrote_from step 0 w ds

unfoldable pub wrote_all : {S I : Type 0} → (I → S → S) → List (On I) → List (Disk S) → List (Disk S)
wrote_all step [] ds = ds
wrote_all step (w ∷ ws) ds = wrote_all step ws (wrote step w ds)

-- disk k dies, for good
unfoldable pub killed_from : {S : Type 0} → ℕ → ℕ → List (Disk S) → List (Disk S)
killed_from i k [] = []
killed_from i k (d ∷ ds) = cond (i == k) (record { has = d.has; lives = false }) d ∷ killed_from (suc i) k ds

abbrev pub killed : {S : Type 0} → ℕ → List (Disk S) → List (Disk S)
killed k ds = killed_from 0 k ds

-- one at least lives
unfoldable pub alive : {S : Type 0} → List (Disk S) → Bool
alive [] = false
alive (d ∷ ds) = d.lives || alive ds

-- what a program can see of the disks: of one that died, nothing
abbrev pub View : Type 0
View = List (Disk (List Page))

unfoldable pub seen : {S : Type 0} → (S → List Page) → List (Disk S) → View
seen look [] = []
seen look (d ∷ ds) = record { has = cond d.lives (look d.has) []; lives = d.lives } ∷ seen look ds

-- a program: what it writes, in order, to make so many new disks for so many pages, and for recovery; what
-- it has in memory when it starts; and for a call its answer, what it writes, in order, and what it has in
-- memory when all of that is written. All is worked out when the call or the recovery begins
pub record Program (I : Type 0) : Type 0 where
  pub makes : ℕ → ℕ → List (On I)
  pub mends : View → List (On I)
  pub starts : Limits → View → List ℕ
  pub says : Limits → List ℕ → View → Call → Answer
  pub writes : Limits → List ℕ → View → Call → List (On I)
  pub keeps : Limits → List ℕ → View → Call → List ℕ

-- what happened, as anybody outside could know it: a call was answered; a call was under way when power
-- went; power went between calls
pub data Happening : Type 0 where
  was_told : Call → Answer → Happening
  was_cut : Call → Happening
  power_went : Happening

-- the call under way, with its answer and the memory that will be kept
pub record Under : Type 0 where
  pub call : Call
  pub answer : Answer
  pub memory : List ℕ

pub record World (S I : Type 0) : Type 0 where
  pub disks : List (Disk S)
  pub memory : List ℕ
  pub up : Bool  -- false from when power went until recovery is done
  pub todo : List (On I)  -- what is still to be written
  pub under : List Under  -- none or one
  pub past : List Happening  -- the last first

unfoldable pub cut : List Under → List Happening → List Happening
cut [] hs = power_went ∷ hs
cut (u ∷ us) hs = was_cut u.call ∷ hs

-- each disk as it may be after power went
abbrev pub Fallen : {S : Type 0} → (S → S → Type 0) → List (Disk S) → List (Disk S) → Type 0
Fallen falls [] [] = Unit {0}
Fallen falls [] (e ∷ es) = ⊥
Fallen falls (d ∷ ds) [] = ⊥
Fallen falls (d ∷ ds) (e ∷ es) = (e.lives ≡ d.lives) × falls d.has e.has × Fallen falls ds es

abbrev pub Fit : {S : Type 0} → (S → Type 0) → List (Disk S) → Type 0
Fit fits [] = Unit {0}
Fit fits (d ∷ ds) = fits d.has × Fit fits ds

abbrev pub made : {S I : Type 0} → (S → List Page) → Program I → Limits → List (Disk S) → World S I
made look f l d = record { disks = d; memory = f.starts l (seen look d); up = true; todo = []; under = []; past = [] }

-- everything that can happen, in any order: new disks are made; a call begins, if none is under way; the
-- next block is written; when all are, the call is answered; a disk dies, if another lives; power goes, and
-- goes again while recovery is under way; recovery is done
pub data Lived {S I : Type 0} (M : Medium S I) (f : Program I) (l : Limits) : World S I → Type 0 where
  new : (d : List (Disk S)) → Fit (M.fits l.pages) d → alive d ≡ true → Lived M f l (made M.look f l (wrote_all M.step (f.makes (length d) l.pages) d))
  begins : {w : World S I} (c : Call) → Lived M f l w → w.up ≡ true → w.todo ≡ [] → w.under ≡ [] →
      Lived M f l (record {
        disks = w.disks;
        memory = w.memory;
        up = true;
        todo = f.writes l w.memory (seen M.look w.disks) c;
        under = record { call = c; answer = f.says l w.memory (seen M.look w.disks) c; memory = f.keeps l w.memory (seen M.look w.disks) c } ∷ [];
        past = w.past;
      })
  one_written : {w : World S I} (x : On I) (xs : List (On I)) → Lived M f l w → w.todo ≡ x ∷ xs →
      Lived M f l (record { disks = wrote M.step x w.disks; memory = w.memory; up = w.up; todo = xs; under = w.under; past = w.past })
  answered : {w : World S I} (u : Under) → Lived M f l w → w.up ≡ true → w.todo ≡ [] → w.under ≡ u ∷ [] →
      Lived M f l (record { disks = w.disks; memory = u.memory; up = true; todo = []; under = []; past = was_told u.call u.answer ∷ w.past })
  dies : {w : World S I} (k : ℕ) → Lived M f l w → alive (killed k w.disks) ≡ true →
      Lived M f l (record { disks = killed k w.disks; memory = w.memory; up = w.up; todo = w.todo; under = w.under; past = w.past })
  power : {w : World S I} (d : List (Disk S)) → Lived M f l w → Fallen M.falls w.disks d → w.up ≡ true →
      Lived M f l (record { disks = d; memory = []; up = false; todo = f.mends (seen M.look d); under = []; past = cut w.under w.past })
  power_again : {w : World S I} (d : List (Disk S)) → Lived M f l w → Fallen M.falls w.disks d → w.up ≡ false →
      Lived M f l (record { disks = d; memory = []; up = false; todo = f.mends (seen M.look d); under = []; past = w.past })
  mended : {w : World S I} → Lived M f l w → w.up ≡ false → w.todo ≡ [] →
      Lived M f l (record { disks = w.disks; memory = f.starts l (seen M.look w.disks); up = true; todo = []; under = []; past = w.past })

-- Two disks as one record, with first and second by name. Definitions only.
--
-- The same worlds as those of a list of two plain disks, written out: this is the form in which the main
-- promise is exported, since it can be read without the notion of a kind of disk.
use Rattle.std.specs.Prelude.{◌≡◌, ℕ, ◌+◌, Bool, true, false, cond, ◌||◌, List, [], ◌∷◌, length, ◌==◌}
use Rattle.model.specs.Numbers.{first_page}
use Rattle.model.specs.Book.{Page, set_page, Call, Answer, Limits, Book}
use Rattle.model.specs.Disks.{Happening, was_told, Under, cut}
use Rattle.model.specs.Promise.{GoodLimits, Explains}

-- a disk is a list of blocks; one of the two may die, at any time, for good
pub record Disks : Type 0 where
  pub first : List Page
  pub second : List Page
  pub first_lives : Bool
  pub second_lives : Bool

-- one block written on one of the two, 0 or 1
pub record Write : Type 0 where
  pub disk : ℕ
  pub at : ℕ
  pub block : Page

-- a write to a disk that died does nothing; one that is done lasts
abbrev pub wrote : Write → Disks → Disks
wrote w d =
    cond (w.disk == 0)
    (record { first = cond d.first_lives (set_page d.first w.at w.block) d.first; second = d.second; first_lives = d.first_lives; second_lives = d.second_lives })
    (record { first = d.first; second = cond d.second_lives (set_page d.second w.at w.block) d.second; first_lives = d.first_lives; second_lives = d.second_lives })

unfoldable pub wrote_all : List Write → Disks → Disks
wrote_all [] d = d
wrote_all (w ∷ ws) d = wrote_all ws (wrote w d)

-- what a program can see: of a disk that died, nothing
abbrev pub seen : Disks → Disks
seen d =
    record { first = cond d.first_lives d.first []; second = cond d.second_lives d.second []; first_lives = d.first_lives; second_lives = d.second_lives }

-- a program over two disks; the fields are those of a program over a list
pub record Program : Type 0 where
  pub makes : ℕ → List Write
  pub mends : Disks → List Write
  pub starts : Limits → Disks → List ℕ
  pub says : Limits → List ℕ → Disks → Call → Answer
  pub writes : Limits → List ℕ → Disks → Call → List Write
  pub keeps : Limits → List ℕ → Disks → Call → List ℕ

pub record World : Type 0 where
  pub disks : Disks
  pub memory : List ℕ
  pub up : Bool
  pub todo : List Write
  pub under : List Under
  pub past : List Happening

abbrev pub made : Program → Limits → Disks → World
made f l d =
    record { disks = d; memory = f.starts l (seen d); up = true; todo = []; under = []; past = [] }

-- two disks that can be made new: of the right size, and one of them lives at least
abbrev pub Fit : ℕ → Disks → Type 0
Fit n d = (length d.first ≡ n + first_page) × (length d.second ≡ n + first_page) × ((d.first_lives || d.second_lives) ≡ true)

-- everything that can happen, in any order
pub data Lived (f : Program) (l : Limits) : World → Type 0 where
  new : (d : Disks) → Fit l.pages d → Lived f l (made f l (wrote_all (f.makes l.pages) d))
  begins : {w : World} (c : Call) → Lived f l w → w.up ≡ true → w.todo ≡ [] → w.under ≡ [] →
      Lived f l (record {
        disks = w.disks;
        memory = w.memory;
        up = true;
        todo = f.writes l w.memory (seen w.disks) c;
        under = record { call = c; answer = f.says l w.memory (seen w.disks) c; memory = f.keeps l w.memory (seen w.disks) c } ∷ [];
        past = w.past;
      })
  one_written : {w : World} (x : Write) (xs : List Write) → Lived f l w → w.todo ≡ x ∷ xs →
      Lived f l (record { disks = wrote x w.disks; memory = w.memory; up = w.up; todo = xs; under = w.under; past = w.past })
  answered : {w : World} (u : Under) → Lived f l w → w.up ≡ true → w.todo ≡ [] → w.under ≡ u ∷ [] →
      Lived f l (record { disks = w.disks; memory = u.memory; up = true; todo = []; under = []; past = was_told u.call u.answer ∷ w.past })
  first_dies : {w : World} → Lived f l w → w.disks.second_lives ≡ true →
      Lived f l (record {
        disks = record { first = w.disks.first; second = w.disks.second; first_lives = false; second_lives = true };
        memory = w.memory;
        up = w.up;
        todo = w.todo;
        under = w.under;
        past = w.past;
      })
  second_dies : {w : World} → Lived f l w → w.disks.first_lives ≡ true →
      Lived f l (record {
        disks = record { first = w.disks.first; second = w.disks.second; first_lives = true; second_lives = false };
        memory = w.memory;
        up = w.up;
        todo = w.todo;
        under = w.under;
        past = w.past;
      })
  power : {w : World} → Lived f l w → w.up ≡ true →
      Lived f l (record { disks = w.disks; memory = []; up = false; todo = f.mends (seen w.disks); under = []; past = cut w.under w.past })
  power_again : {w : World} → Lived f l w → w.up ≡ false →
      Lived f l (record { disks = w.disks; memory = []; up = false; todo = f.mends (seen w.disks); under = []; past = w.past })
  mended : {w : World} → Lived f l w → w.up ≡ false → w.todo ≡ [] →
      Lived f l (record { disks = w.disks; memory = f.starts l (seen w.disks); up = true; todo = []; under = []; past = w.past })

-- THE MAIN PROMISE, for two disks: there is always a book that explains every answer
unfoldable pub Right : (ℕ → Bool) → Program → Type 0
Right can f = (l : Limits) (w : World) → GoodLimits can l → Lived f l w → (b : Book) × Explains l w.past b

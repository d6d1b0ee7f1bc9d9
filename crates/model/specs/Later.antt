-- One moment after another, and what stands on the disks meanwhile. Definitions only.
use Rattle.std.specs.Prelude.{◌≡◌, ℕ, true, false, List, [], ◌∷◌, ◌++◌}
use Rattle.model.specs.Numbers.{first_page}
use Rattle.model.specs.Book.{Page, Call, Limits}
use Rattle.model.specs.Disks.{Disk, On, Medium, wrote, killed, alive, seen, Program, Happening, was_told, Under, World, cut, Fallen, Lived}
use Rattle.model.specs.Promise.{from_block}
use Rattle.model.specs.Statements.{GoodSize, AllLive, AtRest, no_close}

-- the worlds that a world can lead to: everything that can happen but making new disks, in any order
pub data Later {S I : Type 0} (M : Medium S I) (f : Program I) (l : Limits) (v : World S I) : World S I → Type 0 where
  at_once : Later M f l v v
  begins : {w : World S I} (c : Call) → Later M f l v w → w.up ≡ true → w.todo ≡ [] → w.under ≡ [] →
      Later M f l v (record {
        disks = w.disks;
        memory = w.memory;
        up = true;
        todo = f.writes l w.memory (seen M.look w.disks) c;
        under = record { call = c; answer = f.says l w.memory (seen M.look w.disks) c; memory = f.keeps l w.memory (seen M.look w.disks) c } ∷ [];
        past = w.past;
      })
  one_written : {w : World S I} (x : On I) (xs : List (On I)) → Later M f l v w → w.todo ≡ x ∷ xs →
      Later M f l v (record { disks = wrote M.step x w.disks; memory = w.memory; up = w.up; todo = xs; under = w.under; past = w.past })
  answered : {w : World S I} (u : Under) → Later M f l v w → w.up ≡ true → w.todo ≡ [] → w.under ≡ u ∷ [] →
      Later M f l v (record { disks = w.disks; memory = u.memory; up = true; todo = []; under = []; past = was_told u.call u.answer ∷ w.past })
  dies : {w : World S I} (k : ℕ) → Later M f l v w → alive (killed k w.disks) ≡ true →
      Later M f l v (record { disks = killed k w.disks; memory = w.memory; up = w.up; todo = w.todo; under = w.under; past = w.past })
  power : {w : World S I} (d : List (Disk S)) → Later M f l v w → Fallen M.falls w.disks d → w.up ≡ true →
      Later M f l v (record { disks = d; memory = []; up = false; todo = f.mends (seen M.look d); under = []; past = cut w.under w.past })
  power_again : {w : World S I} (d : List (Disk S)) → Later M f l v w → Fallen M.falls w.disks d → w.up ≡ false →
      Later M f l v (record { disks = d; memory = []; up = false; todo = f.mends (seen M.look d); under = []; past = w.past })
  mended : {w : World S I} → Later M f l v w → w.up ≡ false → w.todo ≡ [] →
      Later M f l v (record { disks = w.disks; memory = f.starts l (seen M.look w.disks); up = true; todo = []; under = []; past = w.past })

-- from one rest to a later one with no close between, the same pages stand on each living disk
unfoldable pub StandsOn : {S I : Type 0} → Medium S I → Program I → Type 0
StandsOn {S} {I} M f =
    (l : Limits) (v w : World S I) (hs : List Happening) → GoodSize l → Lived M f l v → AtRest v → Later M f l v w → AtRest w → w.past ≡ hs ++ v.past → no_close hs ≡ true →
    (p : List Page) × AllLive (λ s. from_block first_page (M.look s) ≡ p) v.disks × AllLive (λ s. from_block first_page (M.look s) ≡ p) w.disks

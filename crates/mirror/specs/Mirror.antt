-- Several replicas as one disk: in which order blocks go to them, and how they are made the same after
-- power went. What a block means is not known here. Definitions only.
use Rattle.std.specs.Prelude.{ℕ, zero, suc, cond, List, [], ◌∷◌, ◌++◌}
use Rattle.model.specs.Book.{Page}
use Rattle.model.specs.Disks.{On, on, View}
use Rattle.model.specs.Plain.{Put}
use Rattle.model.specs.Promise.{same_page}

-- k numbers from i on
unfoldable pub numbers : ℕ → ℕ → List ℕ
numbers i zero = []
numbers i (suc k) = i ∷ numbers (suc i) k

-- one item on each of these disks, one after the other
unfoldable pub on_each : {I : Type 0} → List ℕ → I → List (On I)
on_each [] x = []
on_each (i ∷ is) x = on i x ∷ on_each is x

-- each item on all of k disks before the next is begun
unfoldable pub mirrored : {I : Type 0} → ℕ → List I → List (On I)
mirrored k [] = []
mirrored k (x ∷ xs) = on_each (numbers 0 k) x ++ mirrored k xs

unfoldable pub or_else : List Put → List Put → List Put
or_else [] qs = qs
or_else (p ∷ ps) qs = p ∷ ps

-- the highest block in which two disks differ, as it is on the first; the lists begin at block i
unfoldable pub highest : ℕ → List Page → List Page → List Put
highest i [] ys = []
highest i (x ∷ xs) [] = []
highest i (x ∷ xs) (y ∷ ys) = or_else (highest (suc i) xs ys) (cond (same_page x y) [] (record { block = i; content = x } ∷ []))

-- the blocks of the first disk that lives: the one that is gone by
unfoldable pub source : View → List Page
source [] = []
source (d ∷ ds) = cond d.lives d.has (source ds)

unfoldable pub all_on : ℕ → List Put → List (On Put)
all_on i [] = []
all_on i (m ∷ ms) = on i m ∷ all_on i ms

-- to every disk that lives, the highest block in which it differs from b, as it is on b
unfoldable pub resync : ℕ → List Page → View → List (On Put)
resync i b [] = []
resync i b (d ∷ ds) = cond d.lives (all_on i (highest 0 b d.has)) [] ++ resync (suc i) b ds

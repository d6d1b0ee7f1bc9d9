-- What holds of each disk of a list, with the disk's number, and how it goes on holding when a block is
-- written or a disk dies. One induction is done here, so that all else can speak of one disk at a time.
use Rattle.std.proofs.Common.{◌≡◌, ℕ, suc, ◌+◌, ◌<◌, Bool, true, false, cond, eqb, List, [], ◌∷◌, length, refl, ap, ◌∙◌, inl, inr, arith}
use Rattle.std.proofs.lemmas.Bool.{both_ways, or_cases}
use Rattle.model.specs.Book.{Page}
use Rattle.model.specs.Disks.{Disk, On, wrote_one, wrote_from, wrote, wrote_all, killed_from, alive, seen}
use Rattle.mirror.specs.Mirror.{source}

abbrev pub Each : {S : Type 0} → (ℕ → Disk S → Type 0) → ℕ → List (Disk S) → Type 0
Each R i [] = Unit {0}
Each R i (d ∷ ds) = R i d × Each R (suc i) ds

-- a disk has s, if it lives
abbrev pub Has : {S : Type 0} → S → ℕ → Disk S → Type 0
Has s i d = d.lives ≡ true → d.has ≡ s

pub each_map : {S : Type 0} (R T : ℕ → Disk S → Type 0) → ((j : ℕ) (d : Disk S) → R j d → T j d) → (i : ℕ) (ds : List (Disk S)) → Each R i ds → Each T i ds
each_map R T f i [] e = tt
each_map R T f i (d ∷ ds) e = (f i d e.0, each_map R T f (suc i) ds e.1)

pub each_and : {S : Type 0} (R T : ℕ → Disk S → Type 0) (i : ℕ) (ds : List (Disk S)) → Each R i ds → Each T i ds → Each (λ j d. R j d × T j d) i ds
each_and R T i [] r t = tt
each_and R T i (d ∷ ds) r t = ((r.0, t.0), each_and R T (suc i) ds r.1 t.1)

pub each_below : {S : Type 0} (i : ℕ) (ds : List (Disk S)) → Each (λ j _. j < i + length ds) i ds
each_below i [] = tt
each_below i (d ∷ ds) =
    let h : suc i + length ds ≡ i + length (d ∷ ds) = omega arith in
    (omega arith, each_map (λ j _. j < suc i + length ds) _ (λ j _ q. omega arith) (suc i) ds (each_below (suc i) ds))

-- one item is written
pub each_wrote : {S I : Type 0} (step : I → S → S) (w : On I) (R T : ℕ → Disk S → Type 0) → ((j : ℕ) (d : Disk S) → R j d → T j (cond (eqb j w.disk) (wrote_one step w.item d) d)) →
    (i : ℕ) (ds : List (Disk S)) → Each R i ds → Each T i (wrote_from step i w ds)
unfolding wrote_from
each_wrote step w R T f i [] e = tt
each_wrote step w R T f i (d ∷ ds) e = (f i d e.0, each_wrote step w R T f (suc i) ds e.1)

pub length_wrote : {S I : Type 0} (step : I → S → S) (w : On I) (i : ℕ) (ds : List (Disk S)) → length (wrote_from step i w ds) ≡ length ds
unfolding wrote_from
length_wrote step w i [] = refl
length_wrote step w i (d ∷ ds) = ap suc (length_wrote step w (suc i) ds)

lives_wrote : {S I : Type 0} (step : I → S → S) (x : I) (d : Disk S) (t : Bool) → (cond t (wrote_one step x d) d).lives ≡ d.lives
lives_wrote step x d true = refl
lives_wrote step x d false = refl

pub alive_wrote : {S I : Type 0} (step : I → S → S) (w : On I) (i : ℕ) (ds : List (Disk S)) → alive (wrote_from step i w ds) ≡ alive ds
unfolding wrote_from alive
alive_wrote step w i [] = refl
alive_wrote step w i (d ∷ ds) = rw (lives_wrote step w.item d (eqb i w.disk), alive_wrote step w (suc i) ds)

pub alive_wrote_all : {S I : Type 0} (step : I → S → S) (ws : List (On I)) (d : List (Disk S)) → alive (wrote_all step ws d) ≡ alive d
unfolding wrote_all
alive_wrote_all step [] d = refl
alive_wrote_all step (w ∷ ws) d = alive_wrote_all step ws (wrote step w d) ∙ alive_wrote step w 0 d

-- a disk dies
pub each_killed : {S : Type 0} (k : ℕ) (R : ℕ → Disk S → Type 0) → ((j : ℕ) (d : Disk S) → R j d → R j (record { has = d.has; lives = false })) →
    (i : ℕ) (ds : List (Disk S)) → Each R i ds → Each R i (killed_from i k ds)
unfolding killed_from
each_killed k R f i [] e = tt
each_killed k R f i (d ∷ ds) e = (go (eqb i k), each_killed k R f (suc i) ds e.1)
  where
    go : (t : Bool) → R i (cond t (record { has = d.has; lives = false }) d)
    go true = f i d e.0
    go false = e.0

pub length_killed : {S : Type 0} (k i : ℕ) (ds : List (Disk S)) → length (killed_from i k ds) ≡ length ds
unfolding killed_from
length_killed k i [] = refl
length_killed k i (d ∷ ds) = ap suc (length_killed k (suc i) ds)

-- what is seen of the disks
pub length_seen : {S : Type 0} (look : S → List Page) (d : List (Disk S)) → length (seen look d) ≡ length d
unfolding seen
length_seen look [] = refl
length_seen look (y ∷ d) = ap suc (length_seen look d)

pub source_is : {S : Type 0} (look : S → List Page) (s : S) (i : ℕ) (d : List (Disk S)) → alive d ≡ true → Each (Has s) i d → source (seen look d) ≡ look s
unfolding alive seen source
source_is look s i [] al h = absurd (both_ways false refl al)
source_is look s i (y ∷ d) al h = go y.lives refl (λ z. source_is look s (suc i) d z h.1)
  where
    go : (t : Bool) → y.lives ≡ t → (alive d ≡ true → source (seen look d) ≡ look s) → cond y.lives (cond y.lives (look y.has) []) (source (seen look d)) ≡ look s
    go true e r = rw e (ap look (h.0 e))
    go false e r = rw e (r (elim (or_cases _ _ al) [ inl z ↦ absurd (both_ways y.lives e z) | inr z ↦ z ]))

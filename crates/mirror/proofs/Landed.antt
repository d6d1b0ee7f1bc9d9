-- A plan written as a whole: what each disk has when all of it is written, whatever the disks had before.
-- Of a mirrored plan every disk that lives gets every item, so this is how new disks are made.
use Rattle.std.proofs.Common.{◌≡◌, ℕ, zero, suc, ◌+◌, ◌<◌, ◌≤◌, Bool, true, false, cond, eqb, ◌⊎◌, List, [], ◌∷◌, ◌++◌, length, sym, refl, ap, ◌∙◌, subst, inl, inr, arith}
use Rattle.std.proofs.lemmas.Bool.{eq-eqb, ne_eqb, cases_eq, cond-true, cond-false}
use Rattle.model.specs.Disks.{Disk, On, on, wrote_one, wrote, wrote_all}
use Rattle.model.proofs.Safely.{steps}
use Rattle.mirror.specs.Mirror.{numbers, on_each, mirrored}
use Rattle.mirror.proofs.Each.{Each, each_map, each_and, each_below, each_wrote}

-- what disk i has when all items are written that are for it
unfoldable pub landed : {S I : Type 0} → (I → S → S) → ℕ → List (On I) → S → S
landed step i [] s = s
landed step i (w ∷ ws) s = landed step i ws (cond (eqb i w.disk) (step w.item s) s)

-- a disk on which they are written, if it lives
abbrev pub landed_disk : {S I : Type 0} → (I → S → S) → ℕ → List (On I) → Disk S → Disk S
landed_disk step i ws d = record { has = cond d.lives (landed step i ws d.has) d.has; lives = d.lives }

landed_one : {S I : Type 0} (step : I → S → S) (i : ℕ) (w : On I) (ws : List (On I)) (d : Disk S) →
    landed_disk step i ws (cond (eqb i w.disk) (wrote_one step w.item d) d) ≡ landed_disk step i (w ∷ ws) d
unfolding landed
landed_one step i w ws d = go (eqb i w.disk) d.lives refl
  where
    go : (t u : Bool) → d.lives ≡ u → landed_disk step i ws (cond t (wrote_one step w.item d) d) ≡ record { has = cond d.lives (landed step i ws (cond t (step w.item d.has) d.has)) d.has; lives = d.lives }
    go true true e = rw e
    go true false e = rw e
    go false u e = refl

pub each_landed : {S I : Type 0} (step : I → S → S) (ws : List (On I)) (R : ℕ → Disk S → Type 0) (d : List (Disk S)) → Each (λ i y. R i (landed_disk step i ws y)) 0 d → Each R 0 (wrote_all step ws d)
unfolding wrote_all landed
each_landed step [] R d h = each_map (λ i y. R i (landed_disk step i [] y)) R (λ i y r. none i y y.lives refl r) 0 d h
  where
    none : (i : ℕ) (y : Disk _) (t : Bool) → y.lives ≡ t → R i (landed_disk step i [] y) → R i y
    none i y true e r = subst (R i) (λ k. record { has = cond-true y.lives y.has y.has e k; lives = y.lives }) r
    none i y false e r = subst (R i) (λ k. record { has = cond-false y.lives y.has y.has e k; lives = y.lives }) r
each_landed step (w ∷ ws) R d h =
    each_landed step ws R (wrote step w d)
    (each_wrote step w (λ i y. R i (landed_disk step i (w ∷ ws) y)) (λ i y. R i (landed_disk step i ws y)) (λ i y r. subst (R i) (sym (landed_one step i w ws y)) r) 0 d h)

pub landed_append : {S I : Type 0} (step : I → S → S) (i : ℕ) (vs ws : List (On I)) (s : S) → landed step i (vs ++ ws) s ≡ landed step i ws (landed step i vs s)
unfolding landed
landed_append step i [] ws s = refl
landed_append step i (v ∷ vs) ws s = landed_append step i vs ws (cond (eqb i v.disk) (step v.item s) s)

landed_here : {S I : Type 0} (step : I → S → S) (i k : ℕ) (x : I) (ws : List (On I)) (s : S) → i ≡ k → landed step i (on k x ∷ ws) s ≡ landed step i ws (step x s)
unfolding landed
landed_here step i k x ws s e = ap (landed step i ws) (cond-true _ _ _ (eq-eqb i k e))

landed_other : {S I : Type 0} (step : I → S → S) (i k : ℕ) (x : I) (ws : List (On I)) (s : S) → (i ≡ k → ⊥) → landed step i (on k x ∷ ws) s ≡ landed step i ws s
unfolding landed
landed_other step i k x ws s e = ap (landed step i ws) (cond-false _ _ _ (ne_eqb i k e))

-- one item on each of n disks from a on: on disk i once
landed_past : {S I : Type 0} (step : I → S → S) (x : I) (a n i : ℕ) (s : S) → i < a → landed step i (on_each (numbers a n) x) s ≡ s
unfolding numbers on_each landed
landed_past step x a zero i s h = refl
landed_past step x a (suc n) i s h = landed_other step i a x (on_each (numbers (suc a) n) x) s (λ e. omega arith) ∙ landed_past step x (suc a) n i s (omega arith)

landed_once : {S I : Type 0} (step : I → S → S) (x : I) (a n i : ℕ) (s : S) → a ≤ i → i < a + n → landed step i (on_each (numbers a n) x) s ≡ step x s
unfolding numbers on_each
landed_once step x a zero i s h k = absurd (omega arith)
landed_once step x a (suc n) i s h k = go (cases_eq i a) (λ z. landed_once step x (suc a) n i s z (omega arith))
  where
    go : (i ≡ a) ⊎ (i ≡ a → ⊥) → (suc a ≤ i → landed step i (on_each (numbers (suc a) n) x) s ≡ step x s) → landed step i (on_each (numbers a (suc n)) x) s ≡ step x s
    go (inl e) f = landed_here step i a x (on_each (numbers (suc a) n) x) s e ∙ landed_past step x (suc a) n i (step x s) (omega arith)
    go (inr e) f = landed_other step i a x (on_each (numbers (suc a) n) x) s e ∙ f (omega arith)

pub landed_mirrored : {S I : Type 0} (step : I → S → S) (k i : ℕ) (xs : List I) (s : S) → i < k → landed step i (mirrored k xs) s ≡ steps step xs s
unfolding mirrored landed
landed_mirrored step k i [] s h = refl
landed_mirrored step k i (x ∷ xs) s h =
    landed_append step i (on_each (numbers 0 k) x) (mirrored k xs) s
    ∙ rw (landed_once step x 0 k i s (omega arith) (omega arith)) (landed_mirrored step k i xs (step x s) h)

-- every disk that lives gets all of a mirrored plan
pub each_mirrored : {S I : Type 0} (step : I → S → S) (xs : List I) (d : List (Disk S)) (R : ℕ → Disk S → Type 0) →
    Each (λ i y. R i (record { has = cond y.lives (steps step xs y.has) y.has; lives = y.lives })) 0 d → Each R 0 (wrote_all step (mirrored (length d) xs) d)
each_mirrored step xs d R h =
    each_landed step (mirrored (length d) xs) R d
    (each_map _ (λ i y. R i (landed_disk step i (mirrored (length d) xs) y)) (λ i y p. rw (landed_mirrored step (length d) i xs y.has (omega arith)) p.1) 0 d (each_and _ _ 0 d (each_below 0 d) h))

-- The writes of a work as a list of which the first are done: what is next, and what is then held.
use Rattle.std.proofs.Common.{◌≡◌, ℕ, zero, suc, Bool, true, false, List, [], ◌∷◌, ◌++◌, drop, Some, None, Option, sym, refl, ap, subst, arith}
use Rattle.std.specs.List.{slice_get as item}
use Rattle.std.proofs.lemmas.Bool.{both_ways}
use Rattle.model.specs.Numbers.{copies}
use Rattle.model.specs.Book.{Page}
use Rattle.model.specs.Disks.{On, on}
use Rattle.model.specs.Plain.{Put}
use Rattle.mirror.specs.Mirror.{numbers, on_each, mirrored}
use Rattle.engine.specs.Works.{copy_writes}
use Rattle.engine.proofs.LogKept.{Keeps, AllKeep}
use Rattle.world.specs.Reached.{HeldFor}

abbrev or_this : {A : Type 0} → A → Option A → A
or_this a None = a
or_this a (Some x) = x

pub some_same : {A : Type 0} (x y : A) → Some x ≡ Some y → x ≡ y
some_same x y e = ap (or_this x) e

abbrev there : {A : Type 0} → Option A → Bool
there None = false
there (Some x) = true

pub not_none : {A : Type 0} (x : A) → Some x ≡ None → ⊥
not_none x e = both_ways true (ap there e) refl

-- the k-th write is the first of those that are left
pub drop_item : {A : Type 0} (ws : List A) (k : ℕ) (p : A) → Some p ≡ item ws k → drop k ws ≡ p ∷ drop (suc k) ws
drop_item [] zero p e = absurd (not_none p e)
drop_item [] (suc k) p e = absurd (not_none p e)
drop_item (w ∷ ws) zero p e = ap (λ x. x ∷ ws) (some_same w p (sym e))
drop_item (w ∷ ws) (suc k) p e = drop_item ws k p e

-- what goes on both disks begins on the first, so that nothing need be held
pub on_first : (ps : List Put) (held : Page) → HeldFor (mirrored copies ps) held
unfolding mirrored on_each numbers
on_first [] held = tt
on_first (x ∷ ps) held = λ (h : 0 ≡ 1). absurd (omega (arith, h))

-- of two writes in a row, the second being on the second disk, both put the same

pair_mirrored : (ps : List Put) (k : ℕ) (p : On Put) → Some p ≡ item (mirrored copies ps) k → HeldFor (drop (suc k) (mirrored copies ps)) p.item.content
unfolding mirrored on_each numbers
pair_mirrored [] zero p e = absurd (not_none p e)
pair_mirrored [] (suc k) p e = absurd (not_none p e)
pair_mirrored (x ∷ ps) zero p e = λ h. ap (λ (q : On Put). q.item.content) (some_same p (on 0 x) e)
pair_mirrored (x ∷ ps) (suc zero) p e = on_first ps p.item.content
pair_mirrored (x ∷ ps) (suc (suc k)) p e = pair_mirrored ps k p e

pub pair_held : (c : Option ℕ) (kept : Page) (ps : List Put) (k : ℕ) (p : On Put) → Some p ≡ item (copy_writes c kept ++ mirrored copies ps) k →
    HeldFor (drop (suc k) (copy_writes c kept ++ mirrored copies ps)) p.item.content
pair_held None kept ps k p e = pair_mirrored ps k p e
pair_held (Some i) kept ps zero p e = on_first ps p.item.content
pair_held (Some i) kept ps (suc k) p e = pair_mirrored ps k p e

-- a recovery that copies a block has it from the start
pub first_held : (c : Option ℕ) (kept : Page) (ps : List Put) → HeldFor (copy_writes c kept ++ mirrored copies ps) kept
first_held None kept ps = on_first ps kept
first_held (Some i) kept ps = λ h. refl

-- none of the writes of a list that keeps the log changes it
pub keep_item : (b : List Page) (ws : List (On Put)) (k : ℕ) (p : On Put) → Some p ≡ item ws k → AllKeep b ws → Keeps b p.item
keep_item b [] zero p e all = absurd (not_none p e)
keep_item b [] (suc k) p e all = absurd (not_none p e)
keep_item b (w ∷ ws) zero p e all = let K : On Put → Type 0 = λ x. Keeps b x.item in subst K (some_same w p (sym e)) all.0
keep_item b (w ∷ ws) (suc k) p e all = keep_item b ws k p e all.1

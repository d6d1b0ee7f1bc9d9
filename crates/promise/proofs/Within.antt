-- All that the register is still to write, at any moment, is good pages within its disks, and between calls
-- it keeps nothing in memory.
use Rattle.std.proofs.Common.{◌≡◌, ℕ, List, [], ◌∷◌, length, sym, refl, subst}
use Rattle.model.specs.Book.{Page, Limits}
use Rattle.model.specs.Disks.{On, View, seen, Under, World, Lived}
use Rattle.model.specs.Disks.Lived.{begins, one_written, answered, dies, power, power_again, mended}
use Rattle.model.specs.Plain.{Put, put, plain}
use Rattle.mirror.specs.Mirror.{mirrored, source, resync}
use Rattle.mirror.proofs.Each.{length_wrote, length_killed, length_seen}
use Rattle.mirror.proofs.Resync.{id}
use Rattle.mirror.proofs.Plans.{Below, below_append, below_mirrored, below_resync, AllItems, shape_items}
use Rattle.journal.specs.Journal.{recovery}
use Rattle.journal.proofs.Log.{Fits}
use Rattle.promise.specs.Register.{recovery_writes, register}
use Rattle.promise.specs.Bounds.{WithinDisks, StaysWithin}
use Rattle.promise.proofs.Right.{any_moment}

pub within_from : (k n : ℕ) (ws : List (On Put)) → Below k ws → AllItems (Fits n) ws → WithinDisks k n ws
within_from k n [] b f = tt
within_from k n (w ∷ ws) b f = ((b.0, f.0.0, f.0.1), within_from k n ws b.1 f.1)

-- disks
pub below_recovery : (d : View) → Below (length d) (recovery_writes d)
below_recovery d = below_append (length d) (resync 0 (source d) d) (mirrored (length d) (recovery (source d))) (below_resync (source d) d) (below_mirrored (length d) (recovery (source d)))

recovery_seen : (d : View) → Below (length d) (recovery_writes (seen id d))
recovery_seen d = subst (λ (k : ℕ). Below k (recovery_writes (seen id d))) (length_seen id d) (below_recovery (seen id d))

todo_below : (l : Limits) {w : World (List Page) Put} → Lived plain register l w → Below (length w.disks) w.todo
todo_below l (Lived.new d fit al) = tt
todo_below l (begins {w} c lived up todo under) =
    subst (λ (k : ℕ). Below k (register.writes l w.memory (seen id w.disks) c)) (length_seen id w.disks) (below_mirrored (length (seen id w.disks)) _)
todo_below l (one_written {w} x xs lived e) =
    let h : Below (length w.disks) (x ∷ xs) = subst (Below (length w.disks)) e (todo_below l lived) in
    subst (λ (k : ℕ). Below k xs) (sym (length_wrote put x 0 w.disks)) h.1
todo_below l (answered u lived up todo under) = tt
todo_below l (dies {w} k lived h) = subst (λ (k : ℕ). Below k w.todo) (sym (length_killed k 0 w.disks)) (todo_below l lived)
todo_below l (power d lived fall up) = recovery_seen d
todo_below l (power_again d lived fall up) = recovery_seen d
todo_below l (mended lived up todo) = tt

-- memory
abbrev NoneKept : List Under → Type 0
NoneKept [] = Unit {0}
NoneKept (u ∷ us) = (u.memory ≡ []) × NoneKept us

no_memory : {l : Limits} {w : World (List Page) Put} → Lived plain register l w → (w.memory ≡ []) × NoneKept w.under
no_memory (Lived.new d fit al) = (refl, tt)
no_memory (begins c lived up todo under) = ((no_memory lived).0, (refl, tt))
no_memory (one_written x xs lived e) = no_memory lived
no_memory (answered {w} u lived up todo under) = let h : NoneKept (u ∷ []) = subst NoneKept under (no_memory lived).1 in (h.0, tt)
no_memory (dies k lived h) = no_memory lived
no_memory (power d lived fall up) = (refl, tt)
no_memory (power_again d lived fall up) = (refl, tt)
no_memory (mended lived up todo) = (refl, tt)

pub stays_within : StaysWithin
unfolding StaysWithin
stays_within l w size lived =
    ((no_memory lived).0, within_from (length w.disks) l.pages w.todo (todo_below l lived) (shape_items put _ _ _ (Fits l.pages) (λ s x g. g.fits) w.disks w.todo (any_moment l size w lived)))

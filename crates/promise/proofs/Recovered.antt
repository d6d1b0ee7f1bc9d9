-- Recovery that was done and is done once more only empties the header again: no page of any disk changes.
use Rattle.std.proofs.Common.{◌≡◌, ℕ, suc, ◌<◌, Bool, true, false, cond, eqb, List, [], ◌∷◌, ◌++◌, length, refl, ap, ◌∙◌, arith}
use Rattle.std.proofs.lemmas.Bool.{cond-false}
use Rattle.model.specs.Numbers.{first_page}
use Rattle.model.specs.Book.{Limits, new_book}
use Rattle.model.specs.Disks.{On, wrote_from, wrote, wrote_all, View, seen}
use Rattle.model.specs.Plain.{Put, put, plain}
use Rattle.model.specs.Promise.{from_block}
use Rattle.model.specs.Statements.{pages_on, RecoveredOnce}
use Rattle.model.proofs.Lists.{from_set_below}
use Rattle.mirror.specs.Mirror.{numbers, on_each, mirrored, resync}
use Rattle.mirror.proofs.Each.{source_is}
use Rattle.mirror.proofs.Replicas.{at_end, written_out}
use Rattle.mirror.proofs.Resync.{id, resync_none, recovery_shape}
use Rattle.mirror.proofs.Plans.{AllItems, items_append, items_on_each}
use Rattle.journal.specs.Journal.{holds, entries, header_put, recovery}
use Rattle.journal.proofs.Calls.{Ready, recovery_is_safe}
use Rattle.promise.specs.Register.{recovery_writes, register}
use Rattle.promise.proofs.Right.{any_moment}
use Rattle.promise.proofs.Worlds.{Rest}

-- writes below the pages change no page
abbrev Low : Put → Type 0
Low m = m.block < first_page

wrote_low : (w : On Put) (i : ℕ) (d : View) → Low w.item → pages_on id (wrote_from put i w d) ≡ pages_on id d
unfolding pages_on wrote_from
wrote_low w i [] h = refl
wrote_low w i (y ∷ d) h =
    let e = one (eqb i w.disk) y.lives in
    let f = wrote_low w (suc i) d h in
    cc
  where
    one : (t u : Bool) → from_block first_page (cond t (record { has = cond u (put w.item y.has) y.has; lives = y.lives }) y).has ≡ from_block first_page y.has
    one true true = from_set_below first_page y.has w.item.block w.item.content h
    one true false = refl
    one false u = refl

pages_low : (ws : List (On Put)) (d : View) → AllItems Low ws → pages_on id (wrote_all put ws d) ≡ pages_on id d
unfolding wrote_all
pages_low [] d h = refl
pages_low (w ∷ ws) d h = pages_low ws (wrote put w d) h.1 ∙ wrote_low w 0 d h.0

-- recovery from rest is the empty header, on each disk
recovery_at_rest : (l : Limits) (hs : List _) (d : View) → Rest (Ready l (new_book l.pages) hs) d → recovery_writes (seen id d) ≡ mirrored (length (seen id d)) (header_put false 0 ∷ [])
recovery_at_rest l hs d (b, al, h, r) =
    ap (λ x. resync 0 x (seen id d) ++ mirrored (length (seen id d)) (recovery x)) (source_is id b 0 d al h)
    ∙ ap (λ x. x ++ mirrored (length (seen id d)) (recovery b)) (resync_none b 0 d h)
    ∙ ap (λ es. mirrored (length (seen id d)) (es ++ (header_put false 0 ∷ []))) (cond-false (holds b) (entries b) [] r.shows.free)

header_low : (k : ℕ) → AllItems Low (mirrored k (header_put false 0 ∷ []))
unfolding mirrored
header_low k = items_append Low (on_each (numbers 0 k) (header_put false 0)) [] (items_on_each Low (numbers 0 k) (header_put false 0) (omega arith)) tt

again : (l : Limits) (hs : List _) (d : View) → Rest (Ready l (new_book l.pages) hs) d → pages_on id (wrote_all put (recovery_writes (seen id d)) d) ≡ pages_on id d
again l hs d r =
    ap (λ ws. pages_on id (wrote_all put ws d)) (recovery_at_rest l hs d r) ∙ pages_low (mirrored (length (seen id d)) (header_put false 0 ∷ [])) d (header_low (length (seen id d)))

pub recovered_once : RecoveredOnce plain register
unfolding RecoveredOnce
recovered_once l w size lived =
    let sh = recovery_shape recovery _ _ _ _ (recovery_is_safe l (new_book l.pages) _) w.disks w.todo (any_moment l size w lived) in
    let (b, al, h, q) = at_end put _ _ _ _ (written_out put _ _ _ _ w.disks sh) in
    again l _ _ (b, al, h, q.1)

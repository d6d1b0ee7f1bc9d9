-- Making, with deaths on the way, is a making that the model knows. There no disk dies while disks are made,
-- but a disk may be dead from the start: a disk that died is taken as if it had always been as it was in the
-- end, for a dead disk is written nothing. From that start all the writes lead to the same disks.
use Rattle.std.proofs.Common.{◌≡◌, ℕ, suc, ◌+◌, Bool, true, false, cond, eqb, List, [], ◌∷◌, length, Some, Option, sym, refl, ap, ◌∙◌, subst, inl, inr, arith}
use Rattle.std.proofs.lemmas.Bool.{both_ways}
use Rattle.model.specs.Numbers.{first_page, copies}
use Rattle.model.specs.Book.{Page, nth}
use Rattle.model.specs.Disks.{On, View, wrote_one, wrote_from, wrote_all, killed_from, alive, Fit, Lived}
use Rattle.model.specs.Plain.{Put, put, plain}
use Rattle.mirror.proofs.Each.{Each, each_killed, alive_wrote_all}
use Rattle.promise.specs.Register.{register}
use Rattle.device.specs.Known.{Known}
use Rattle.device.specs.Ran.{Ran, stays, writes, dies, Both, view}
use Rattle.engine.specs.declared.work.Work.{Work}
use Rattle.engine.specs.Calling.{limits}
use Rattle.engine.specs.Doing.{Copies, Finished}
use Rattle.engine.specs.Making.{NoRegister, Makes, Made}
use Rattle.engine.specs.Living.{resting, MakingLives}
use Rattle.engine.proofs.Doing.{either_way}
use Rattle.engine.proofs.Living.{Long, long_wrote, view_alive}

-- the writes of the work are the model's, whatever stands on the disks
pub made : (s t : Option Both) (n : ℕ) (w : Work) (r : Bool) → Makes n (Some w) → Finished s t w r → Made s t n r
unfolding nth
made s t n w r makes finished d is low high =
    let b : List Page = w.list ∷ (w.list ∷ []) in
    let C : Option ℕ → Type 0 = λ o. Copies o w.block b in
    let f = finished d is b refl (λ z. absurd (both_ways _ makes.3 z)) (subst C (sym makes.4) tt) in
    let P : List (On Put) → Type 0 = λ ws. Ran ws (view d) (view f.0) in
    (f.0, f.1, subst P (makes.2 b) f.2, f.3)

pub some_register : (n : ℕ) (w : Work) → Makes n (Some w) → NoRegister n → ⊥
some_register n w makes (inl z) = omega arith
some_register n w makes (inr z) = omega arith

-- what is dead stays dead
abbrev Lasts : View → View → Type 0
Lasts [] [] = Unit {0}
Lasts [] (e ∷ u) = ⊥
Lasts (d ∷ v) [] = ⊥
Lasts (d ∷ v) (e ∷ u) = (e.lives ≡ true → d.lives ≡ true) × Lasts v u

lasts_none : (v : View) → Lasts v v
lasts_none [] = tt
lasts_none (d ∷ v) = ((λ l. l), lasts_none v)

one_wrote : (t : Bool) (x : Put) (d : Known) → (cond t (wrote_one put x d) d).lives ≡ d.lives
one_wrote true x d = refl
one_wrote false x d = refl

lasts_wrote : (w : On Put) (i : ℕ) (v u : View) → Lasts (wrote_from put i w v) u → Lasts v u
unfolding wrote_from
lasts_wrote w i [] u h = h
lasts_wrote w i (d ∷ v) [] h = h
lasts_wrote w i (d ∷ v) (e ∷ u) h = ((λ l. sym (one_wrote (eqb i w.disk) w.item d) ∙ h.0 l), lasts_wrote w (suc i) v u h.1)

one_killed : (t : Bool) (d : Known) → (cond t (record { has = d.has; lives = false }) d).lives ≡ true → d.lives ≡ true
one_killed true d l = absurd (both_ways false refl l)
one_killed false d l = l

lasts_killed : (k i : ℕ) (v u : View) → Lasts (killed_from i k v) u → Lasts v u
unfolding killed_from
lasts_killed k i [] u h = h
lasts_killed k i (d ∷ v) [] h = h
lasts_killed k i (d ∷ v) (e ∷ u) h = ((λ l. one_killed (eqb i k) d (h.0 l)), lasts_killed k (suc i) v u h.1)

ran_lasts : {ws : List (On Put)} {v u : View} → Ran ws v u → Lasts v u
ran_lasts {v = v} stays = lasts_none v
ran_lasts {v = v} {u = u} (writes w r) = lasts_wrote w 0 v u (ran_lasts r)
ran_lasts {v = v} {u = u} (dies k r) = lasts_killed k 0 v u (ran_lasts r)

-- the disks as they were, but each that died as it was in the end
abbrev patched : View → View → View
patched [] u = []
patched (d ∷ v) [] = []
patched (d ∷ v) (e ∷ u) = cond e.lives d e ∷ patched v u

one_same : (t : Bool) (d : Known) → cond t d d ≡ d
one_same true d = refl
one_same false d = refl

patched_none : (v : View) → patched v v ≡ v
patched_none [] = refl
patched_none (d ∷ v) =
    let p : cond d.lives d d ≡ d = one_same d.lives d in
    let q : patched v v ≡ v = patched_none v in
    cc

-- a write goes on what lives in the end, and is nothing to what died
one_patched : (s t : Bool) (x : Put) (d e : Known) → e.lives ≡ s → cond s (cond t (wrote_one put x d) d) e ≡ cond t (wrote_one put x (cond s d e)) (cond s d e)
one_patched true t x d e is = refl
one_patched false t x d e is = sym (either_way t x e is)

patched_wrote : (w : On Put) (i : ℕ) (v u : View) → patched (wrote_from put i w v) u ≡ wrote_from put i w (patched v u)
unfolding wrote_from
patched_wrote w i [] u = refl
patched_wrote w i (d ∷ v) [] = refl
patched_wrote w i (d ∷ v) (e ∷ u) =
    let t = eqb i w.disk in
    let p : cond e.lives (cond t (wrote_one put w.item d) d) e ≡ cond t (wrote_one put w.item (cond e.lives d e)) (cond e.lives d e) = one_patched e.lives t w.item d e refl in
    let q : patched (wrote_from put (suc i) w v) u ≡ wrote_from put (suc i) w (patched v u) = patched_wrote w (suc i) v u in
    cc

-- a disk that dies is dead in the end, and taken as it is then
dead_patched : (s t : Bool) (d e : Known) → (s ≡ true → (cond t (record { has = d.has; lives = false }) d).lives ≡ true) → cond s (cond t (record { has = d.has; lives = false }) d) e ≡ cond s d e
dead_patched true true d e h = absurd (both_ways false refl (h refl))
dead_patched true false d e h = refl
dead_patched false t d e h = refl

patched_killed : (k i : ℕ) (v u : View) → Lasts (killed_from i k v) u → patched (killed_from i k v) u ≡ patched v u
unfolding killed_from
patched_killed k i [] u h = refl
patched_killed k i (d ∷ v) [] h = refl
patched_killed k i (d ∷ v) (e ∷ u) h =
    let p : cond e.lives (cond (eqb i k) (record { has = d.has; lives = false }) d) e ≡ cond e.lives d e = dead_patched e.lives (eqb i k) d e h.0 in
    let q : patched (killed_from (suc i) k v) u ≡ patched v u = patched_killed k (suc i) v u h.1 in
    cc

-- all the writes, with no death on the way
ran_patched : {ws : List (On Put)} {v u : View} → Ran ws v u → wrote_all put ws (patched v u) ≡ u
unfolding wrote_all
ran_patched {v = v} stays = patched_none v
ran_patched {v = v} {u = u} (writes {ws = ws} w r) = ap (wrote_all put ws) (sym (patched_wrote w 0 v u)) ∙ ran_patched r
ran_patched {ws = ws} {v = v} {u = u} (dies k r) = ap (wrote_all put ws) (sym (patched_killed k 0 v u (ran_lasts r))) ∙ ran_patched r

-- lengths are kept
ran_long : (n : ℕ) {ws : List (On Put)} {v u : View} → Ran ws v u → Each (Long n) 0 v → Each (Long n) 0 u
ran_long n stays e = e
ran_long n {v = v} (writes w r) e = ran_long n r (long_wrote n w v e)
ran_long n {v = v} (dies k r) e = ran_long n r (each_killed k (Long n) (λ j d q. q) 0 v e)

one_fits : (n : ℕ) (t : Bool) (d e : Known) → length d.has ≡ n → length e.has ≡ n → length (cond t d e).has ≡ n
one_fits n true d e p q = p
one_fits n false d e p q = q

patched_fits : (n i : ℕ) (v u : View) → Each (Long (n + first_page)) i v → Each (Long (n + first_page)) i u → Fit (plain.fits n) (patched v u)
patched_fits n i [] u p q = tt
patched_fits n i (d ∷ v) [] p q = tt
patched_fits n i (d ∷ v) (e ∷ u) p q = (one_fits (n + first_page) e.lives d e p.0 q.0, patched_fits n (suc i) v u p.1 q.1)

pub made_lives : (s t : Option Both) (n : ℕ) (r : Bool) → Made s t n r → MakingLives s t n r
made_lives s t n r making d is size long =
    let f = making d is size.0 size.1 in
    let start : View = patched (view d) (view f.0) in
    let end : wrote_all put (register.makes copies n) start ≡ view f.0 = ran_patched f.2 in
    let lengths : Each (Long (n + first_page)) 0 (view d) = (long.0, (long.1, tt)) in
    let fit : Fit (plain.fits n) start = patched_fits n 0 (view d) (view f.0) lengths (ran_long (n + first_page) f.2 lengths) in
    let P : View → Type 0 = λ v. Lived plain register (limits n) (resting v []) in
    let lives : r ≡ true → alive start ≡ true = λ good. sym (alive_wrote_all put (register.makes copies n) start) ∙ ap alive end ∙ view_alive f.0 (sym f.3 ∙ good) in
    (f.0, f.1, f.3, λ good. subst P end (Lived.new start fit (lives good)))

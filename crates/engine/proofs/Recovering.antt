-- Recovery begun and done: what is worked out by header and list of the disk that is gone by is the model's
-- recovery of the disks as they are then, wherever deaths led during the reads.
use Rattle.std.proofs.Common.{◌≡◌, ℕ, suc, ◌+◌, ◌<◌, Bool, true, false, cond, eqb, List, [], ◌∷◌, ◌++◌, length, Some, None, Option, sym, refl, ap, ◌∙◌, subst, inl, inr, append-nil, arith, length-append, ltb-true}
use Rattle.std.proofs.lemmas.Bool.{both_ways, and_parts, and_from, or_left, or_from}
use Rattle.model.specs.Numbers.{first_page, copies}
use Rattle.model.specs.Book.{Page, nth}
use Rattle.model.specs.Disks.{On, View, killed_from, seen}
use Rattle.model.specs.Plain.{Put}
use Rattle.mirror.specs.Mirror.{mirrored, highest, source, all_on, resync}
use Rattle.mirror.proofs.Resync.{highest_same}
use Rattle.layout.specs.Reading.{log_holds, log_count}
use Rattle.journal.specs.Journal.{pages_of, holds, count, entries_from, header_put, recovery}
use Rattle.journal.specs.Plans.{replays, plan_puts}
use Rattle.journal.specs.declared.plan.Plan.{Plan}
use Rattle.journal.specs.declared.plan.Plan.TheVariants.{Nothing, Write, Close, Replay, Make}
use Rattle.journal.proofs.Steps.{length_entries}
use Rattle.journal.proofs.Counts.{length_recovery}
use Rattle.device.specs.Blocks.{block_of, Shows}
use Rattle.device.specs.Known.{Known}
use Rattle.device.specs.Ran.{Ran, stays, writes, dies, Both, view, one_lives, both_live, OnOne, Fetched, FetchedBoth}
use Rattle.device.proofs.Runs.{ran_more}
use Rattle.promise.specs.Register.{recovery_writes}
use Rattle.engine.specs.declared.work.Work.{Work}
use Rattle.engine.specs.Works.{copy_writes, work_writes}
use Rattle.engine.specs.Doing.{Copies, Finished}
use Rattle.engine.specs.Recovering.{OfPages, copy_put, Scanned, source_of, WorksOut, Begins, RecoveryBegun, Recovered}
use Rattle.engine.proofs.Doing.{ran_dead, both_dead}

-- a log that doesn't hold has nothing to replay
replays_some : (q : Plan) (given : Page) (b : List Page) → replays q ≡ true → 1 < length (plan_puts q given b)
replays_some Nothing given b r = absurd (both_ways false refl r)
replays_some (Write n p) given b r = absurd (both_ways false refl r)
replays_some (Close n) given b r = omega (arith, length-append (entries_from b 0 n.writes) (header_put false 0 ∷ []), length_entries b 0 n.writes)
replays_some (Replay n) given b r = omega (arith, ltb-true, length-append (entries_from b 0 n.writes) (header_put false 0 ∷ []), length_entries b 0 n.writes)
replays_some (Make k) given b r = absurd (both_ways false refl r)

replays_held : (q : Plan) (given : Page) (b : List Page) → plan_puts q given b ≡ recovery b → replays q ≡ true → holds b ≡ true
replays_held q given b e r = go (holds b) refl
  where
    go : (t : Bool) → holds b ≡ t → t ≡ true
    go true h = refl
    go false h = let n : length (recovery b) ≡ 1 = length_recovery b ∙ ap (λ t. cond t (count b + 1) 1) h in absurd (omega (arith, replays_some q given b r, ap length e))

-- what is worked out by header and list
pub worked_out : (log list block : List ℕ) (pages n : ℕ) (t : Bool) (q : Plan) → length log ≡ 2048 → list ≡ block_of log 1 → t ≡ log_holds (block_of log 0) list pages →
    n ≡ log_count (block_of log 0) list pages → ((b : List Page) (given : Page) → holds b ≡ t → count b ≡ n → plan_puts q given b ≡ recovery b) →
    (b : List Page) → Shows log b 0 → length b ≡ pages + first_page → (nth b 1 ≡ list) × (plan_puts q block b ≡ recovery b) × (replays q ≡ true → holds b ≡ true)
worked_out log list block pages n t q l is h c puts b shows long =
    let header : nth b 0 ≡ block_of log 0 = sym (shows 0 (omega arith)) in
    let listed : nth b 1 ≡ list = sym (shows 1 (omega arith)) ∙ sym is in
    let many : pages_of b ≡ pages = omega arith in
    let held : holds b ≡ t = rw (header, listed, many) (sym h) in
    let counted : count b ≡ n = rw (header, listed, many) (sym c) in
    let all = puts b block held counted in
    (listed, all, replays_held q block b all)

-- deaths leave the blocks, and what is dead stays dead
abbrev Fewer : View → View → Type 0
Fewer [] [] = Unit {0}
Fewer [] (y ∷ u) = ⊥
Fewer (x ∷ v) [] = ⊥
Fewer (x ∷ v) (y ∷ u) = (y.has ≡ x.has) × (y.lives ≡ true → x.lives ≡ true) × Fewer v u

fewer_none : (v : View) → Fewer v v
fewer_none [] = tt
fewer_none (x ∷ v) = (refl, (λ l. l), fewer_none v)

killed_one : (t : Bool) (x : Known) → ((cond t (record { has = x.has; lives = false }) x).has ≡ x.has) × ((cond t (record { has = x.has; lives = false }) x).lives ≡ true → x.lives ≡ true)
killed_one true x = (refl, λ l. absurd (both_ways false refl l))
killed_one false x = (refl, λ l. l)

fewer_killed : (i k : ℕ) (v u : View) → Fewer (killed_from i k v) u → Fewer v u
unfolding killed_from
fewer_killed i k [] u f = f
fewer_killed i k (x ∷ v) [] f = f
fewer_killed i k (x ∷ v) (y ∷ u) f =
    let z = killed_one (eqb i k) x in
    (f.0 ∙ z.0, (λ l. z.1 (f.1 l)), fewer_killed (suc i) k v u f.2)

ran_fewer : {ws : List (On Put)} {v u : View} → ws ≡ [] → Ran ws v u → Fewer v u
ran_fewer {v = v} z stays = fewer_none v
ran_fewer z (writes w r) = let y : ◌≡◌ {A = ℕ} 0 1 = cc in absurd (omega arith)
ran_fewer {v = v} {u = u} z (dies k r) = fewer_killed 0 k v u (ran_fewer z r)

-- the disk that is gone by, and the model's recovery, by who lives
module _ (e : Both) where
  source_first : e.first.lives ≡ true → source_of e ≡ e.first.has
  unfolding source seen
  source_first a = rw a

  source_second : e.first.lives ≡ false → e.second.lives ≡ true → source_of e ≡ e.second.has
  unfolding source seen
  source_second a b = rw (a, b)

  both_resynced : e.first.lives ≡ true → e.second.lives ≡ true →
      recovery_writes (seen (λ b. b) (view e)) ≡ all_on 1 (highest 0 e.first.has e.second.has) ++ mirrored copies (recovery e.first.has)
  unfolding source seen resync all_on
  both_resynced a b = rw (a, b, highest_same 0 e.first.has, append-nil)

  first_resynced : e.first.lives ≡ true → e.second.lives ≡ false → recovery_writes (seen (λ b. b) (view e)) ≡ all_on 1 [] ++ mirrored copies (recovery e.first.has)
  unfolding source seen resync all_on
  first_resynced a b = rw (a, b, highest_same 0 e.first.has)

  second_resynced : e.first.lives ≡ false → e.second.lives ≡ true → recovery_writes (seen (λ b. b) (view e)) ≡ all_on 1 [] ++ mirrored copies (recovery e.second.has)
  unfolding source seen resync all_on
  second_resynced a b = rw (a, b, highest_same 0 e.second.has)

copied_writes : (o : Option ℕ) (kept : Page) → copy_writes o kept ≡ all_on 1 (copy_put o kept)
unfolding all_on
copied_writes None kept = refl
copied_writes (Some k) kept = refl

-- a work whose plan is the journal's recovery of b
abbrev PlansFor : List Page → Work → Type 0
PlansFor b w = (nth b 1 ≡ w.list) × (plan_puts w.plan w.block b ≡ recovery b) × (replays w.plan ≡ true → holds b ≡ true)

-- begun with a copy, or with none
begins_with : (e : Both) (b : List Page) (w : Work) (ps : List Put) → one_lives e ≡ true → source_of e ≡ b → recovery_writes (seen (λ c. c) (view e)) ≡ all_on 1 ps ++ mirrored copies (recovery b) →
    copy_put w.copy w.block ≡ ps → Copies w.copy w.block b → PlansFor b w → Begins e (Some w)
begins_with e b w ps lives is model copy kept (list, plan, held) =
    let P : List Page → Type 0 = λ c. (work_writes w c ≡ recovery_writes (seen (λ b. b) (view e))) × (nth c 1 ≡ w.list) × Copies w.copy w.block c × (replays w.plan ≡ true → holds c ≡ true) in
    let all : work_writes w b ≡ recovery_writes (seen (λ c. c) (view e)) = rw (model, ← copy, plan) (ap (λ (ws : List (On Put)). ws ++ mirrored copies (recovery b)) (copied_writes w.copy w.block)) in
    let h = subst P (sym is) (all, list, kept, held) in
    (lives, h.0, h.1, h.2, h.3)

no_copy : (b : List Page) (w : Work) → w.copy ≡ None → (copy_put w.copy w.block ≡ []) × Copies w.copy w.block b
no_copy b w e =
    let P : Option ℕ → Type 0 = λ o. (copy_put o w.block ≡ []) × Copies o w.block b in
    subst P (sym e) (refl, tt)

-- both disks live: the first is gone by
pub begun_both : (s t u : Option Both) (pages : ℕ) (o : Option ℕ) (kept : Page) (p q : List ℕ) (r : Bool) (w : Work) → Scanned s t pages o kept → FetchedBoth t u 0 p q r → r ≡ true → w.copy ≡ o →
    w.block ≡ kept → WorksOut p pages w → RecoveryBegun s u pages (Some w)
begun_both s t u pages o kept p q r w scan fetch good is_copy is_Block works d is long =
    let x = scan d is long in
    let y = fetch x.0 x.1 in
    let z = y.4 good in
    let live : both_live x.0 ≡ true = ap both_live (sym z.0) ∙ sym y.3 ∙ good in
    let h = x.3 live in
    let back : y.0 ≡ d = z.0 ∙ h.0 in
    let now : both_live d ≡ true = ap both_live (sym h.0) ∙ live in
    let a = and_parts d.first.lives d.second.lives now in
    let S : Both → Type 0 = λ v. Shows p v.first.has 0 in
    let C : Page → Type 0 = λ v. (copy_put o v ≡ highest 0 d.first.has d.second.has) × Copies o v d.first.has in
    let D : Option ℕ → Type 0 = λ v. (copy_put v w.block ≡ highest 0 d.first.has d.second.has) × Copies v w.block d.first.has in
    let c = subst D (sym is_copy) (subst C (sym is_Block) (h.1, h.2)) in (
      d,
      y.1 ∙ ap (λ (v : Both). Some v) back,
      stays,
      begins_with d d.first.has w (highest 0 d.first.has d.second.has) (or_left d.first.lives d.second.lives a.0) (source_first d a.0) (both_resynced d a.0 a.1) c.0 c.1
          (works d.first.has (subst S h.0 z.1) long.0),
    )

-- one of them at most lives: it is gone by, and nothing is copied
module _ (pages : ℕ) (d e : Both) (p : List ℕ) (h : List Page) (w : Work) (dead : both_live d ≡ false) (ran : Ran [] (view d) (view e)) (lives : one_lives e ≡ true) (on_one : OnOne h d)
    (long : OfPages pages d) (shows : Shows p h 0) (none : w.copy ≡ None) (works : WorksOut p pages w) where
  left_first : e.first.lives ≡ true → e.second.lives ≡ false → d.first.has ≡ h → Begins e (Some w)
  left_first a b is =
      let f = ran_fewer refl ran in
      let same : e.first.has ≡ h = f.0 ∙ is in
      let c = no_copy h w none in
      begins_with e h w [] lives (source_first e a ∙ same) (first_resynced e a b ∙ ap (λ v. all_on 1 [] ++ mirrored copies (recovery v)) same) c.0 c.1 (works h shows (ap length (sym is) ∙ long.0))

  left_second : e.first.lives ≡ false → e.second.lives ≡ true → d.second.has ≡ h → Begins e (Some w)
  left_second a b is =
      let f = ran_fewer refl ran in
      let same : e.second.has ≡ h = f.2.0 ∙ is in
      let c = no_copy h w none in
      begins_with e h w [] lives (source_second e a b ∙ same) (second_resynced e a b ∙ ap (λ v. all_on 1 [] ++ mirrored copies (recovery v)) same) c.0 c.1 (works h shows (ap length (sym is) ∙ long.1))

  not_both : d.first.lives ≡ true → d.second.lives ≡ true → ⊥
  not_both a b = both_ways (both_live d) dead (and_from d.first.lives d.second.lives a b)

  one_left : Begins e (Some w)
  one_left = go e.first.lives e.second.lives refl refl on_one
    where
      go : (a b : Bool) → e.first.lives ≡ a → e.second.lives ≡ b → OnOne h d → Begins e (Some w)
      go true true a b o = let f = ran_fewer refl ran in absurd (not_both (f.1 a) (f.2.1 b))
      go true false a b (inl o) = left_first a b o.1
      go true false a b (inr o) = let f = ran_fewer refl ran in absurd (not_both (f.1 a) o.0)
      go false true a b (inl o) = let f = ran_fewer refl ran in absurd (not_both o.0 (f.2.1 b))
      go false true a b (inr o) = left_second a b o.1
      go false false a b o = absurd (both_ways (one_lives e) (or_from e.first.lives e.second.lives a b) lives)

pub begun_one : (s t u v : Option Both) (pages : ℕ) (o : Option ℕ) (kept : Page) (p q l : List ℕ) (r x : Bool) (w : Work) → Scanned s t pages o kept → FetchedBoth t u 0 p q r → r ≡ false →
    Fetched u v 0 l x → x ≡ true → w.copy ≡ None → WorksOut l pages w → RecoveryBegun s v pages (Some w)
begun_one s t u v pages o kept p q l r x w scan fetch bad read good none works d is long =
    let a = scan d is long in
    let b = fetch a.0 a.1 in
    let c = read b.0 b.1 in
    let f = ran_fewer refl (ran_more a.2 b.2) in
    let h = c.4 good in (
      c.0,
      c.1,
      ran_more a.2 (ran_more b.2 c.2),
      one_left pages b.0 c.0 l h.0 w (sym b.3 ∙ bad) c.2 (sym c.3 ∙ good) h.1 (ap length f.0 ∙ long.0, ap length f.2.0 ∙ long.1) h.2 none works,
    )

pub begun_none : (s t u v : Option Both) (pages : ℕ) (o : Option ℕ) (kept : Page) (p q l : List ℕ) (r x : Bool) → Scanned s t pages o kept → FetchedBoth t u 0 p q r → Fetched u v 0 l x → x ≡ false →
    RecoveryBegun s v pages None
begun_none s t u v pages o kept p q l r x scan fetch read bad d is long =
    let a = scan d is long in
    let b = fetch a.0 a.1 in
    let c = read b.0 b.1 in
    (c.0, c.1, ran_more a.2 (ran_more b.2 c.2), sym c.3 ∙ bad)

-- a whole recovery
pub recovered_dead : (s t : Option Both) (pages : ℕ) → RecoveryBegun s t pages None → Recovered s t pages false
recovered_dead s t pages begun d is long agrees =
    let h = begun d is long in
    (h.0, h.0, h.2, h.1, ran_dead (recovery_writes (seen (λ b. b) (view h.0))) (view h.0) (both_dead h.0 h.3), sym h.3)

pub recovered : (s t u : Option Both) (pages : ℕ) (w : Work) (r : Bool) → RecoveryBegun s t pages (Some w) → Finished t u w r → Recovered s u pages r
recovered s t u pages w r begun finished d is long agrees =
    let h = begun d is long in
    let b = h.3 in
    let f = finished h.0 h.1 (source_of h.0) b.2 (λ z. agrees h.0 h.2 (b.4 z)) b.3 in
    let P : List (On Put) → Type 0 = λ ws. Ran ws (view h.0) (view f.0) in
    (h.0, f.0, h.2, f.1, subst P b.1 f.2, f.3)

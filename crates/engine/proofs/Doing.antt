-- One write of a work, done on two disks of which all is known: what is made ready is what the model
-- writes, also where it is read late, and where both disks are dead every write has nothing left to do.
use Rattle.std.proofs.Common.{◌≡◌, ℕ, suc, ◌+◌, ◌<◌, ◌≤◌, Bool, true, false, cond, eqb, List, [], ◌∷◌, length, Option, sym, refl, ap, ◌∙◌, subst, inl, inr, add-zero, arith}
use Rattle.std.proofs.lemmas.Bool.{both_ways, or_parts}
use Rattle.std.proofs.lemmas.List.{take_all}
use Rattle.model.specs.Numbers.{room}
use Rattle.model.specs.Book.{Page, nth}
use Rattle.model.specs.Disks.{On, on, View, wrote_one, wrote_from, alive}
use Rattle.model.specs.Plain.{Put, put}
use Rattle.device.specs.Blocks.{Shows}
use Rattle.device.specs.Known.{Known}
use denote.Enum.Bare.{sameb}
use Rattle.device.specs.contracts.mirror.Side.{the_type}
use Rattle.device.specs.declared.mirror.Side.{Side}
use Rattle.device.specs.declared.mirror.Side.TheVariants.{First, Second}
use Rattle.device.specs.Ran.{Ran, stays, writes, Both, view, one_lives, OnOne, Fetched, Did, TellsLife, side_number}
use Rattle.device.proofs.Runs.{ran_more}
use Rattle.journal.specs.Plans.{replays, ReadsLog, LogBlock, content}
use Rattle.journal.specs.declared.plan.Plan.{Plan}
use Rattle.journal.specs.declared.plan.Kind.{Kind}
use Rattle.journal.specs.declared.plan.Kind.TheVariants.{Header, List as Listing, Given, Logged, Empty}
use Rattle.engine.specs.declared.write.Write.{Write}
use Rattle.engine.specs.declared.write.WriteKind.{WriteKind}
use Rattle.engine.specs.declared.write.WriteKind.TheVariants.{Journal}
use Rattle.engine.specs.declared.work.Work.{Work}
use Rattle.engine.specs.Works.{written, write_means}
use Rattle.engine.specs.Doing.{LogSame, CanDo, Readied, Performed}

-- what `==` answers at the second disk
pub is_second : (s : Side) → true ≡ sameb the_type s Second → s ≡ Second
is_second First h = absurd (both_ways false refl (sym h))
is_second Second h = refl

pub is_first : (s : Side) → false ≡ sameb the_type s Second → s ≡ Second → ⊥
is_first s h e =
    let S : Side → Type 0 = λ x. false ≡ sameb the_type x Second in
    both_ways false refl (subst S e h)

-- on the way to the second disk what is put is held
pub held_for_second : (w : Work) (b : List Page) (d : Both) (side : Side) (kind : WriteKind) (held : Page) (k : Kind) → side ≡ Second → kind ≡ Journal k →
    CanDo w b d side kind held → held ≡ written w.block b kind
held_for_second w b d side kind held k e f can =
    let S : Side → Type 0 = λ s. CanDo w b d s (Journal k) held in
    let K : WriteKind → Type 0 = λ x. CanDo w b d side x held in
    subst S e (subst K f can) ∙ ap (written w.block b) (sym f)

-- on the way to the first the log can be read
pub log_for_first : (w : Work) (b : List Page) (d : Both) (side : Side) (kind : WriteKind) (held : Page) (k : Kind) → (side ≡ Second → ⊥) → kind ≡ Journal k →
    CanDo w b d side kind held → replays w.plan ≡ true → LogSame (view d) b
log_for_first w b d side kind held k n f can =
    let K : WriteKind → Type 0 = λ x. CanDo w b d side x held in
    go side n (subst K f can)
  where
    go : (s : Side) → (s ≡ Second → ⊥) → CanDo w b d s (Journal k) held → replays w.plan ≡ true → LogSame (view d) b
    go First m c = c
    go Second m c = absurd (m refl)

on_one_log : (d : Both) (b h : List Page) (i : ℕ) → i < room → LogSame (view d) b → OnOne h d → nth h (2 + i) ≡ nth b (2 + i)
on_one_log d b h i l same (inl (a, e)) = ap (λ x. nth x (2 + i)) (sym e) ∙ same.0 a i l
on_one_log d b h i l same (inr (a, e)) = ap (λ x. nth x (2 + i)) (sym e) ∙ same.1.0 a i l

-- a block of the log is the same on whichever disk lives
pub late_read : (q : Plan) (kind : Kind) (k : ℕ) (d : Both) (b h : List Page) → LogBlock kind k → ReadsLog q kind → (replays q ≡ true → LogSame (view d) b) → OnOne h d → nth h k ≡ nth b k
late_read q (Header x) k d b h z r same o = absurd z
late_read q (Listing i p) k d b h z r same o = absurd z
late_read q Given k d b h z r same o = absurd z
late_read q (Logged i) k d b h z r same o = rw z (on_one_log d b h i r.1 (same r.0) o)
late_read q Empty k d b h z r same o = absurd z

-- one block read
pub shown_block : (out : List ℕ) (h : List Page) (k : ℕ) → length out ≡ 1024 → Shows out h k → out ≡ nth h k
shown_block out h k l s =
    let le : length out ≤ 1024 = omega arith in
    sym (take_all 1024 out le) ∙ s 0 (omega arith) ∙ ap (nth h) (add-zero k)

-- a dead disk is written nothing
dead_wrote : (x : Put) (d : Known) → d.lives ≡ false → wrote_one put x d ≡ d
dead_wrote x d e = let q : cond d.lives (put x d.has) d.has ≡ d.has = rw e in λ i. record { has = q i; lives = d.lives }

pub either_way : (t : Bool) (x : Put) (d : Known) → d.lives ≡ false → cond t (wrote_one put x d) d ≡ d
either_way true x d e = dead_wrote x d e
either_way false x d e = refl

none_wrote : (w : On Put) (v : View) (i : ℕ) → alive v ≡ false → wrote_from put i w v ≡ v
unfolding wrote_from alive
none_wrote w [] i e = refl
none_wrote w (d ∷ v) i e =
    let h = or_parts d.lives (alive v) e in
    let p : cond (eqb i w.disk) (wrote_one put w.item d) d ≡ d = either_way (eqb i w.disk) w.item d h.0 in
    let q : wrote_from put (suc i) w v ≡ v = none_wrote w v (suc i) h.1 in
    cc

pub ran_dead : (ws : List (On Put)) (v : View) → alive v ≡ false → Ran ws v v
ran_dead [] v e = stays
ran_dead (w ∷ ws) v e = let P : View → Type 0 = λ x. Ran ws x v in writes w (subst P (sym (none_wrote w v 0 e)) (ran_dead ws v e))

pub both_dead : (d : Both) → one_lives d ≡ false → alive (view d) ≡ false
unfolding alive
both_dead d e = let h = or_parts d.first.lives d.second.lives e in rw (h.0, h.1)

-- what is made ready
pub read_readied : (s t : Option Both) (w : Work) (x : Write) (held out : Page) (k : ℕ) (r : Bool) (kind : Kind) → x.kind ≡ Journal kind → (x.disk ≡ Second → ⊥) → length out ≡ 1024 →
    ReadsLog w.plan kind → ((b : List Page) → nth b 1 ≡ w.list → (content w.block b kind ≡ nth b k) × LogBlock kind k) → Fetched s t k out r → Readied s t w x held out r
read_readied s t w x held out k r kind is first l reads filled fetch d e b list can =
    let f = fetch d e in
    let z = filled b list in (
      f.0,
      f.1,
      f.2,
      (λ h. let g = f.4 h in
          shown_block out g.0 k l g.2
          ∙ late_read w.plan kind k d b g.0 z.1 reads (log_for_first w b d x.disk x.kind held kind first is can) g.1
          ∙ sym z.0
          ∙ ap (written w.block b) (sym is)),
      (λ h. sym f.3 ∙ h),
    )

-- one write done, or both disks found dead before it
pub performed : (s t u : Option Both) (w : Work) (x : Write) (held held' : Page) (r q : Bool) → Readied s t w x held held' r → r ≡ true →
    Did t u (on (side_number x.disk) (record { block = x.block; content = held' }) ∷ []) → TellsLife u q → Performed s u w x held held' q
performed s t u w x held held' r q ready good did life d e b list can =
    let f = ready d e b list can in
    let is = f.3 good in
    let g = did f.0 f.1 in
    let P : Page → Type 0 = λ p. Ran (on (side_number x.disk) (record { block = x.block; content = p }) ∷ []) (view f.0) (view g.0) in
    (g.0, g.1, ran_more f.2 (subst P is g.2), life g.0 g.1, λ _. is)

pub performed_dead : (s t : Option Both) (w : Work) (x : Write) (held held' : Page) (r : Bool) → Readied s t w x held held' r → r ≡ false → Performed s t w x held held' false
performed_dead s t w x held held' r ready bad d e b list can =
    let f = ready d e b list can in
    let gone = f.4 bad in
    (f.0, f.1, ran_more f.2 (ran_dead (write_means w.block b x ∷ []) (view f.0) (both_dead f.0 gone)), sym gone, λ h. absurd (both_ways false refl h))

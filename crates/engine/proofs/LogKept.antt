-- What a work writes leaves the log as it was, on every disk that lives: a close and a recovery write the
-- header, the pages, and a block copied from the disk that is gone by.
use Rattle.std.proofs.Common.{◌≡◌, ℕ, zero, suc, ◌+◌, ◌<◌, ◌≤◌, Bool, true, false, cond, eqb, ◌⊎◌, List, [], ◌∷◌, ◌++◌, length, take, sym, refl, ap, ◌∙◌, inl, inr, arith}
use Rattle.std.proofs.lemmas.Bool.{both_ways, cases_eq, cases_lt}
use Rattle.model.specs.Numbers.{room, first_page, copies}
use Rattle.model.specs.Book.{Page, nth}
use Rattle.model.specs.Disks.{On, View, wrote_one, wrote_from, killed_from}
use Rattle.model.specs.Plain.{Put, put}
use Rattle.model.proofs.Lists.{nth_set_same, nth_set_other}
use Rattle.mirror.specs.Mirror.{numbers, on_each, mirrored}
use Rattle.device.specs.Known.{Known}
use Rattle.device.specs.Ran.{Ran, stays, writes, dies}
use Rattle.device.proofs.Whole.{set_past}
use Rattle.journal.specs.Journal.{entries_from, header_put}
use Rattle.journal.specs.Plans.{replays, plan_puts}
use Rattle.journal.specs.declared.plan.Plan.{Plan}
use Rattle.journal.specs.declared.plan.Plan.TheVariants.{Nothing, Write, Close, Replay, Make}
use Rattle.engine.specs.Doing.{LogSame}

abbrev pub LogAs : List Page → List Page → Type 0
LogAs h b = (i : ℕ) → i < room → nth h (2 + i) ≡ nth b (2 + i)

-- a put beside the log, or of what b has there
abbrev pub Keeps : List Page → Put → Type 0
Keeps b x = ((x.block < 2) ⊎ (first_page ≤ x.block)) ⊎ (x.content ≡ nth b x.block)

put_keeps : (b h : List Page) (x : Put) → Keeps b x → LogAs h b → LogAs (put x h) b
put_keeps b h x (inl (inl l)) same i q = nth_set_other h x.block (2 + i) x.content (omega arith) ∙ same i q
put_keeps b h x (inl (inr l)) same i q = nth_set_other h x.block (2 + i) x.content (omega arith) ∙ same i q
put_keeps b h x (inr e) same i q = go (cases_eq x.block (2 + i))
  where
    there : x.block ≡ 2 + i → (x.block < length h) ⊎ (length h ≤ x.block) → nth (put x h) (2 + i) ≡ nth b (2 + i)
    there z (inl l) = ap (nth (put x h)) (sym z) ∙ nth_set_same h x.block x.content l ∙ e ∙ ap (nth b) z
    there z (inr l) = ap (λ c. nth c (2 + i)) (set_past h x.block x.content l) ∙ same i q

    go : (x.block ≡ 2 + i) ⊎ (x.block ≡ 2 + i → ⊥) → nth (put x h) (2 + i) ≡ nth b (2 + i)
    go (inl z) = there z (cases_lt x.block (length h))
    go (inr z) = nth_set_other h x.block (2 + i) x.content z ∙ same i q

one_wrote : (t : Bool) (b : List Page) (x : Put) (d : Known) → Keeps b x → (d.lives ≡ true → LogAs d.has b) → (cond t (wrote_one put x d) d).lives ≡ true → LogAs (cond t (wrote_one put x d) d).has b
one_wrote true b x d k same l = rw l (put_keeps b d.has x k (same l))
one_wrote false b x d k same l = same l

log_wrote : (b : List Page) (w : On Put) (v : View) (i : ℕ) → Keeps b w.item → LogSame v b → LogSame (wrote_from put i w v) b
unfolding wrote_from
log_wrote b w [] i k same = tt
log_wrote b w (d ∷ v) i k same = (one_wrote (eqb i w.disk) b w.item d k same.0, log_wrote b w v (suc i) k same.1)

one_killed : (t : Bool) (b : List Page) (d : Known) → (d.lives ≡ true → LogAs d.has b) → (cond t (record { has = d.has; lives = false }) d).lives ≡ true →
    LogAs (cond t (record { has = d.has; lives = false }) d).has b
one_killed true b d same l = absurd (both_ways false refl l)
one_killed false b d same l = same l

log_killed : (b : List Page) (k : ℕ) (v : View) (i : ℕ) → LogSame v b → LogSame (killed_from i k v) b
unfolding killed_from
log_killed b k [] i same = tt
log_killed b k (d ∷ v) i same = (one_killed (eqb i k) b d same.0, log_killed b k v (suc i) same.1)

abbrev pub AllKeep : List Page → List (On Put) → Type 0
AllKeep b [] = Unit {0}
AllKeep b (w ∷ ws) = Keeps b w.item × AllKeep b ws

pub ran_keeps : (b : List Page) {ws : List (On Put)} {v u : View} → AllKeep b ws → Ran ws v u → LogSame v b → LogSame u b
ran_keeps b k stays same = same
ran_keeps b {v = v} k (writes w r) same = ran_keeps b k.1 r (log_wrote b w v 0 k.0 same)
ran_keeps b {v = v} k (dies n r) same = ran_keeps b k r (log_killed b n v 0 same)

-- the steps of a plan
abbrev pub PutsKeep : List Page → List Put → Type 0
PutsKeep b [] = Unit {0}
PutsKeep b (p ∷ ps) = Keeps b p × PutsKeep b ps

pub keep_take : (b : List Page) (ps : List Put) (i : ℕ) → PutsKeep b ps → PutsKeep b (take i ps)
keep_take b [] zero k = tt
keep_take b [] (suc i) k = tt
keep_take b (p ∷ ps) zero k = tt
keep_take b (p ∷ ps) (suc i) k = (k.0, keep_take b ps i k.1)

pub keep_mirrored : (b : List Page) (ps : List Put) → PutsKeep b ps → AllKeep b (mirrored copies ps)
unfolding mirrored on_each numbers
keep_mirrored b [] k = tt
keep_mirrored b (p ∷ ps) k = (k.0, (k.0, keep_mirrored b ps k.1))

entries_keep : (b : List Page) (i n : ℕ) → PutsKeep b (entries_from b i n ++ (header_put false 0 ∷ []))
unfolding entries_from
entries_keep b i zero = (inl (inl (omega arith)), tt)
entries_keep b i (suc n) = (inl (inr (omega arith)), entries_keep b (suc i) n)

-- a plan that reads the log doesn't change it
pub replay_keeps : (q : Plan) (given : Page) (b : List Page) → replays q ≡ true → PutsKeep b (plan_puts q given b)
replay_keeps Nothing given b h = tt
replay_keeps (Write n p) given b h = absurd (both_ways false refl h)
replay_keeps (Close n) given b h = (inl (inl (omega arith)), entries_keep b 0 n.writes)
replay_keeps (Replay n) given b h = entries_keep b 0 n.writes
replay_keeps (Make k) given b h = absurd (both_ways false refl h)

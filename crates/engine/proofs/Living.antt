-- Runs are parts of lives: writes done one after the other, with deaths between, lead from a world that can
-- be reached to another, and so does a whole call.
use Rattle.std.proofs.Common.{◌≡◌, ℕ, suc, ◌+◌, ◌<◌, Bool, true, false, cond, ◌||◌, eqb, List, [], ◌∷◌, ◌++◌, length, Some, None, Option, sym, refl, ap, ◌∙◌, subst, inl, inr, append-nil, arith}
use Rattle.std.proofs.lemmas.Bool.{both_ways, or_cases, or_parts, or_left, or_right}
use Rattle.model.specs.Numbers.{first_page, copies}
use Rattle.model.specs.Book.{Page, nth, Call, Limits, answer}
use Rattle.model.specs.Disks.{On, View, World, Happening, was_told, Under, Lived, Fallen, Fit, cut, wrote, wrote_one, wrote_all, killed_from, alive, seen}
use Rattle.model.specs.Disks.Lived.{begins, one_written, answered, dies, power, power_again, mended}
use Rattle.model.specs.Plain.{Put, put, plain}
use Rattle.model.specs.Promise.{Right, all}
use Rattle.model.specs.Statements.{GoodSize, AllLive}
use Rattle.model.proofs.Lists.{length_set_page}
use Rattle.mirror.specs.Mirror.{mirrored, source}
use Rattle.mirror.proofs.Each.{Each, each_wrote, each_killed, alive_wrote, source_is}
use Rattle.promise.specs.Register.{register, recovery_writes}
use Rattle.promise.proofs.Right.{at_rest, is_right, fallen_same}
use Rattle.promise.proofs.Moments.{log_same}
use Rattle.promise.specs.LateReading as late
use Rattle.device.specs.Known.{Known}
use Rattle.device.specs.Ran as ran
use Rattle.device.specs.Ran.{Ran, stays, writes, Both, view, one_lives}
use Rattle.journal.specs.Journal.{holds, book_of, puts_of}
use Rattle.wire.specs.declared.answer.Answer.{Answer}
use Rattle.engine.specs.Calling.{limits, Agree, reply_means, Answered}
use Rattle.engine.specs.Doing.{LogSame}
use Rattle.engine.specs.Recovering.{source_of, OfPages, LogAgrees, Recovered}
use Rattle.engine.specs.Living.{resting, Reached, Explained, AnswerLives, RecoveryLives, StoppedCallLives, StoppedRecoveryLives}

abbrev id : List Page → List Page
id b = b

-- a disk that lives at the end lived before
alive_before_death : (k i : ℕ) (v : View) → alive (killed_from i k v) ≡ true → alive v ≡ true
unfolding killed_from alive
alive_before_death k i [] h = h
alive_before_death k i (d ∷ v) h = go (eqb i k) (alive_before_death k (suc i) v) h
  where
    go : (t : Bool) → (alive (killed_from (suc i) k v) ≡ true → alive v ≡ true) → ((cond t (record { has = d.has; lives = false }) d).lives || alive (killed_from (suc i) k v)) ≡ true → (d.lives || alive v) ≡ true
    go true f z = or_right d.lives (alive v) (f z)
    go false f z = elim (or_cases d.lives (alive (killed_from (suc i) k v)) z)
        [ inl q ↦ or_left d.lives (alive v) q | inr q ↦ or_right d.lives (alive v) (f q) ]

pub ran_alive : {ws : List (On Put)} {v u : View} → Ran ws v u → alive u ≡ true → alive v ≡ true
ran_alive stays h = h
ran_alive {v = v} (writes w r) h = sym (alive_wrote put w 0 v) ∙ ran_alive r h
ran_alive {v = v} (ran.dies k r) h = alive_before_death k 0 v (ran_alive r h)

pub view_alive : (d : Both) → one_lives d ≡ true → alive (view d) ≡ true
unfolding alive
view_alive d h = elim (or_cases d.first.lives d.second.lives h) [
  | inl q ↦ or_left d.first.lives (d.second.lives || false) q
  | inr q ↦ or_right d.first.lives (d.second.lives || false) (or_left d.second.lives false q)
]

-- a world with these disks and these writes to do
abbrev pub busy : List ℕ → Bool → List Under → List Happening → View → List (On Put) → World (List Page) Put
busy m up under past v ws = record { disks = v; memory = m; up = up; todo = ws; under = under; past = past }

module _ (l : Limits) (m : List ℕ) (up : Bool) (under : List Under) (past : List Happening) (us : List (On Put)) where
  -- what was run of the writes to do leads on
  pub run_lives : {ws : List (On Put)} {v u : View} → Ran ws v u → alive u ≡ true → Lived plain register l (busy m up under past v (ws ++ us)) → Lived plain register l (busy m up under past u us)
  run_lives stays a q = q
  run_lives (writes {ws = ws} w r) a q = run_lives r a (one_written w (ws ++ us) q refl)
  run_lives (ran.dies k r) a q = run_lives r a (dies k q (ran_alive r a))

module _ (n : ℕ) (size : GoodSize (limits n)) (d : Both) (hs : List Happening) (lived : Reached n d hs) where
  -- all living disks have the same blocks, of the register's length
  pub rested : (b : List Page) × Agree d b × (length b ≡ n + first_page) × (source (seen id (view d)) ≡ b)
  rested =
      let r = at_rest (limits n) size (resting (view d) hs) lived (refl, refl, refl) in
      (r.0, (r.2.0, r.2.1.0), r.3.shows.sound.long, source_is id r.0 0 (view d) r.1 r.2)

-- a call that was answered
call_lived : (n : ℕ) → GoodSize (limits n) → (d e : Both) (hs : List Happening) (c : Call) (b : List Page) → Reached n d hs → source (seen id (view d)) ≡ b → one_lives e ≡ true →
    Ran (mirrored copies (puts_of (limits n) b c)) (view d) (view e) → Reached n e (was_told c (answer (limits n) (book_of b) c) ∷ hs)
unfolding seen
call_lived n size d e hs c b lived src al r =
    let l = limits n in
    let u : List Page → Under = λ x. record { call = c; answer = answer l (book_of x) c; memory = [] } in
    let F : List Page → Type 0 = λ x. Lived plain register l (busy [] true (u x ∷ []) hs (view d) (mirrored copies (puts_of l x c))) in
    let begun : F b = subst F src (begins c lived refl refl refl) in
    let T : List (On Put) → Type 0 = λ ws. Lived plain register l (busy [] true (u b ∷ []) hs (view d) ws) in
    let todo = mirrored copies (puts_of l b c) in
    let ran_out = run_lives l [] true (u b ∷ []) hs [] r (view_alive e al) (subst T (sym (append-nil todo)) begun) in
    answered (u b) ran_out refl refl refl

pub explained : (n : ℕ) → GoodSize (limits n) → (d : Both) (hs : List Happening) → Reached n d hs → Explained n hs
unfolding Right
explained n size d hs lived = is_right all (limits n) (resting (view d) hs) (size.0, size.1, λ k. refl) lived

pub answer_lives : (s t : Option Both) (n : ℕ) (c : Call) (page : Page) (r : Option (Answer (Unit {0}))) → Answered s t n c page r → AnswerLives s t n c page r
answer_lives s t n c page None told d hs is size lived =
    let z = rested n size d hs lived in
    let f = told d is z.0 z.1 z.2 in
    (f.0, f.1, f.3)
answer_lives s t n c page (Some r) told d hs is size lived =
    let z = rested n size d hs lived in
    let f = told d is z.0 z.1 z.2 in
    let P : _ → Type 0 = λ a. Reached n f.0 (was_told c a ∷ hs) in
    let on = subst P (sym f.3.1) (call_lived n size d f.0 hs c z.0 lived z.3 f.3.0 f.2) in
    (f.0, f.1, (on, explained n size f.0 (was_told c (reply_means r page) ∷ hs) on))

-- a disk keeps its length, also when it is dead
abbrev pub Long : ℕ → ℕ → Known → Type 0
Long n i d = length d.has ≡ n

one_long : (n : ℕ) (t : Bool) (x : Put) (d : Known) → length d.has ≡ n → length (cond t (wrote_one put x d) d).has ≡ n
one_long n false x d e = e
one_long n true x d e = go d.lives
  where
    go : (b : Bool) → length (cond b (put x d.has) d.has) ≡ n
    go true = length_set_page d.has x.block x.content ∙ e
    go false = e

pub long_wrote : (n : ℕ) (w : On Put) (v : View) → Each (Long n) 0 v → Each (Long n) 0 (wrote put w v)
long_wrote n w v e = each_wrote put w (Long n) (Long n) (λ j d h. one_long n (eqb j w.disk) w.item d h) 0 v e

long_wrote_all : (n : ℕ) (ws : List (On Put)) (v : View) → Each (Long n) 0 v → Each (Long n) 0 (wrote_all put ws v)
unfolding wrote_all
long_wrote_all n [] v e = e
long_wrote_all n (w ∷ ws) v e = long_wrote_all n ws (wrote put w v) (long_wrote n w v e)

long_fit : (n i : ℕ) (v : View) → Fit (plain.fits n) v → Each (Long (n + first_page)) i v
long_fit n i [] f = tt
long_fit n i (d ∷ v) f = (f.0, long_fit n (suc i) v f.1)

module _ (l : Limits) where
  abbrev Longs : View → Type 0
  Longs v = Each (Long (l.pages + first_page)) 0 v

  lived_long : {w : World (List Page) Put} → Lived plain register l w → Longs w.disks
  lived_long (Lived.new d fit al) = long_wrote_all _ (register.makes (length d) l.pages) d (long_fit l.pages 0 d fit)
  lived_long (begins c lived up todo under) = lived_long lived
  lived_long (one_written {w} x xs lived e) = long_wrote _ x w.disks (lived_long lived)
  lived_long (answered u lived up todo under) = lived_long lived
  lived_long (dies {w} k lived h) = each_killed k (Long (l.pages + first_page)) (λ j d q. q) 0 w.disks (lived_long lived)
  lived_long (power {w} d lived fall up) = subst Longs (sym (fallen_same w.disks d fall)) (lived_long lived)
  lived_long (power_again {w} d lived fall up) = subst Longs (sym (fallen_same w.disks d fall)) (lived_long lived)
  lived_long (mended lived up todo) = lived_long lived

pub fallen_none : (d : Both) → Fallen plain.falls (view d) (view d)
fallen_none d = (refl, refl, (refl, refl, tt))

-- deaths lead from a world that can be reached to another
pub died_lives : (l : Limits) (w : World (List Page) Put) (d e : Both) → Lived plain register l w → w.disks ≡ view d → Ran [] (view d) (view e) → alive (view e) ≡ true →
    Lived plain register l (busy w.memory w.up w.under w.past (view e) w.todo)
died_lives l w d e lived is r al =
    let P : View → Type 0 = λ v. Lived plain register l (busy w.memory w.up w.under w.past v w.todo) in
    run_lives l w.memory w.up w.under w.past w.todo r al (subst P is lived)

source_first : (e : Both) → e.first.lives ≡ true → source_of e ≡ e.first.has
unfolding source seen
source_first e is = rw is

source_second : (e : Both) → e.first.lives ≡ false → e.second.lives ≡ true → source_of e ≡ e.second.has
unfolding source seen
source_second e is q = rw (is, q)

abbrev LogsAgree : Both → Type 0
LogsAgree e = AllLive (λ s. AllLive (λ x. holds s ≡ true → (j : ℕ) → 0 < j → j < first_page → nth s j ≡ nth x j) (view e)) (view e)

-- the log that holds is the same on all that live
both_log : (e : Both) (t : Bool) → e.first.lives ≡ t → (alive (view e) ≡ true → LogsAgree e) → alive (view e) ≡ true → holds (source_of e) ≡ true → LogSame (view e) (source_of e)
both_log e true is same al h =
    let src = source_first e is in
    let held : holds e.first.has ≡ true = ap holds (sym src) ∙ h in
    let P : List Page → Type 0 = λ b. LogSame (view e) b in
    subst P (sym src) ((λ q i k. refl), ((λ q i k. sym (((same al).0 is).1.0 q held (2 + i) (omega arith) (omega arith))), tt))
both_log e false is same al h = (
  (λ q i k. absurd (both_ways e.first.lives is q)),
  ((λ q i k. ap (λ b. nth b (2 + i)) (sym (source_second e is q))), tt),
)

none_log : (e : Both) (b : List Page) → alive (view e) ≡ false → LogSame (view e) b
unfolding alive
none_log e b h =
    let p = or_parts e.first.lives (e.second.lives || false) h in
    let q = or_parts e.second.lives false p.1 in
    ((λ z i k. absurd (both_ways e.first.lives p.0 z)), ((λ z i k. absurd (both_ways e.second.lives q.0 z)), tt))

module _ (n : ℕ) (size : GoodSize (limits n)) (w : World (List Page) Put) (d : Both) (lived : Lived plain register (limits n) w) (is : w.disks ≡ view d) where
  pub log_agrees : LogAgrees d
  unfolding late.LogSame
  log_agrees e r h = go (alive (view e)) refl
    where
      go : (t : Bool) → alive (view e) ≡ t → LogSame (view e) (source_of e)
      go true al = both_log e e.first.lives refl (λ z. log_same (limits n) _ size (died_lives (limits n) w d e lived is r z)) al h
      go false al = none_log e (source_of e) al

  pub of_pages : OfPages n d
  of_pages =
      let P : View → Type 0 = λ v. Longs (limits n) v in
      let z = subst P is (lived_long (limits n) lived) in
      (z.0, z.1.0)

-- a whole recovery
pub recovery_lives : (s t : Option Both) (n : ℕ) (r : Bool) → Recovered s t n r → RecoveryLives s t n r
recovery_lives s t n r rec d w is size lived down disks =
    let f = rec d is (of_pages n size w d lived disks) (log_agrees n size w d lived disks) in
    (f.1, f.3, f.5, λ good. up_again n w d f.0 f.1 lived disks down f.2 f.4 (view_alive f.1 (sym f.5 ∙ good)))
  where
    up_again : (n : ℕ) (w : World (List Page) Put) (d e f : Both) → Lived plain register (limits n) w → w.disks ≡ view d → w.up ≡ false → Ran [] (view d) (view e) →
        Ran (recovery_writes (seen id (view e))) (view e) (view f) → alive (view f) ≡ true → Reached n f w.past
    up_again n w d e f lived is down dead ran al =
        let l = limits n in
        let there = died_lives l w d e lived is dead (ran_alive ran al) in
        let again = power_again (view e) there (fallen_none e) down in
        let todo = recovery_writes (seen id (view e)) in
        let T : List (On Put) → Type 0 = λ ws. Lived plain register l (busy [] false [] w.past (view e) ws) in
        mended (run_lives l [] false [] w.past [] ran al (subst T (sym (append-nil todo)) again)) refl refl

-- stopped by power: what was done of the writes, and then power
pub stopped_call_lives : StoppedCallLives
unfolding seen cut
stopped_call_lives n d e hs c ws us size lived is ran al =
    let l = limits n in
    let u : Under = record { call = c; answer = answer l (book_of (source_of d)) c; memory = [] } in
    let T : List (On Put) → Type 0 = λ x. Lived plain register l (busy [] true (u ∷ []) hs (view d) x) in
    let begun : T (mirrored copies (puts_of l (source_of d) c)) = begins c lived refl refl refl in
    power (view e) (run_lives l [] true (u ∷ []) hs us ran (view_alive e al) (subst T is begun)) (fallen_none e) refl

pub stopped_recovery_lives : StoppedRecoveryLives
stopped_recovery_lives n d e hs ws us lived is ran al =
    let l = limits n in
    let T : List (On Put) → Type 0 = λ x. Lived plain register l (busy [] false [] hs (view d) x) in
    power_again (view e) (run_lives l [] false [] hs us ran (view_alive e al) (subst T is lived)) (fallen_none e) refl

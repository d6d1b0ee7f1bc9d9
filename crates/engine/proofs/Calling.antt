-- Calls on disks that agree: what is read is what they have, the answer is the book's, and the work is the
-- model's.
use Rattle.std.proofs.Common.{◌≡◌, ℕ, zero, suc, ◌+◌, Bool, true, false, cond, eqb, ◌≢◌, ◌⊎◌, List, [], ◌∷◌, ◌++◌, length, Some, None, Option, sym, refl, ap, ◌∙◌, subst, inl, inr, suc-add, zero-add, arith, Bor}
use Rattle.std.proofs.lemmas.Bool.{both_ways, cond-true, cond-false, eq-eqb, ne_eqb, eqb-true}
use Rattle.model.specs.Numbers.{first_page, copies}
use Rattle.model.specs.Book as book
use Rattle.model.specs.Book.{Page, nth, bytes, Call, Limits, Book, Answer, turned, turned_by, good_fields, call_number, place, told, answer}
use Rattle.model.specs.Disks.{On, View, killed_from}
use Rattle.model.specs.Plain.{Put}
use Rattle.model.specs.Promise.{from_block}
use Rattle.mirror.specs.Mirror.{mirrored}
use Rattle.device.specs.Blocks.{block_of}
use Rattle.device.specs.Ran.{Ran, stays, writes, dies, Both, view, one_lives, OnOne, Fetched}
use Rattle.device.proofs.Runs.{ran_more}
use Rattle.layout.specs.Reading.{log_holds, log_count}
use Rattle.layout.specs.declared.log.Log.{Log}
use Rattle.wire.specs.Answers.{refusal_number, refusal_place}
use Rattle.wire.specs.Calls.{meant, call_of, Carried}
use Rattle.wire.proofs.Calls.{own_bytes}
use Rattle.wire.specs.declared.answer.Refusal.{Refusal}
use Rattle.wire.specs.declared.answer.Refusal.TheVariants.{NotACall, Unfit, NoSuchPage, LogFull}
use Rattle.wire.specs.declared.call.Call.{Call as CodeCall}
use Rattle.wire.specs.declared.call.Call.TheVariants.{Read, Write, Close, Size}
use Rattle.journal.specs.Journal.{holds, count, pages_of, book_of, call_puts, puts_of}
use Rattle.journal.specs.Plans.{replays, plan_puts}
use Rattle.journal.specs.Admission.{early, late, Gives, InBytes}
use Rattle.journal.specs.declared.plan.Plan.{Plan}
use Rattle.journal.specs.declared.plan.Plan.TheVariants.{Nothing}
use Rattle.journal.proofs.Admitted.{refusals_are}
use Rattle.engine.specs.declared.work.Work.{Work}
use Rattle.wire.specs.declared.answer.Answer.{Answer as Told}
use Rattle.wire.specs.declared.answer.Answer.TheVariants.{Refused, Done, Page as PageRead, Number}
use Rattle.engine.specs.declared.call.Turn.{Turn}
use Rattle.engine.specs.Works.{work_writes, copy_writes, both_writes}
use Rattle.engine.specs.Doing.{LogSame, Copies, Finished}
use Rattle.engine.specs.Calling.{limits, Agree, reply_means, Carries, Logs, KnowsList, TurnIs, Begun, LogRead, Answered}
use Rattle.engine.proofs.Doing.{shown_block, ran_dead, both_dead}

-- what one of them shows is what all have
pub agreed : (d : Both) (b h : List Page) → Agree d b → OnOne h d → h ≡ b
agreed d b h a (inl (l, e)) = sym e ∙ a.0 l
agreed d b h a (inr (l, e)) = sym e ∙ a.1 l

nth_from : (k : ℕ) (b : List Page) (a : ℕ) → nth (from_block k b) a ≡ nth b (k + a)
unfolding nth from_block
nth_from zero b a = rw (zero-add a)
nth_from (suc k) [] a = refl
nth_from (suc k) (x ∷ b) a = rw (suc-add k a) (nth_from k b a)

-- the refusal of a call, by what is checked first and what last
module _ (n : ℕ) (b : List Page) (c : Call) (ok : InBytes c) where
  abbrev refusal : ℕ
  refusal = turned (limits n) (book_of b) c

  turned_is : refusal ≡ cond (eqb (early n c) 0) (late (count b) c) (early n c)
  turned_is = refusals_are (limits n) (book_of b) c (λ k. refl) ok

  turned_early : (k : ℕ) → k ≡ early n c → k ≢ 0 → refusal ≡ k
  turned_early k e z = turned_is ∙ cond-false (eqb (early n c) 0) _ _ (ne_eqb (early n c) 0 (λ q. z (e ∙ q))) ∙ sym e

  turned_late : early n c ≡ 0 → refusal ≡ late (count b) c
  turned_late e = turned_is ∙ cond-true (eqb (early n c) 0) _ _ (eq-eqb (early n c) 0 e)

  refused_answer : (k p : ℕ) → refusal ≡ k → k ≢ 0 → p ≡ place c → book.refused k p ≡ answer (limits n) (book_of b) c
  refused_answer k p e z q = rw (q, sym e) (sym (cond-false (eqb refusal 0) _ _ (ne_eqb refusal 0 (λ f. z (sym e ∙ f)))))

  taken_answer : refusal ≡ 0 → told (limits n) (book_of b) c ≡ answer (limits n) (book_of b) c
  taken_answer e = sym (cond-true (eqb refusal 0) _ _ (eq-eqb refusal 0 e))

  refused_puts : (k : ℕ) → refusal ≡ k → k ≢ 0 → [] ≡ puts_of (limits n) b c
  refused_puts k e z = sym (cond-false (eqb refusal 0) (call_puts b c) [] (ne_eqb refusal 0 (λ f. z (sym e ∙ f))))

  taken_puts : refusal ≡ 0 → call_puts b c ≡ puts_of (limits n) b c
  taken_puts e = sym (cond-true (eqb refusal 0) (call_puts b c) [] (eq-eqb refusal 0 e))

number_not_0 : (r : Refusal) → refusal_number r ≢ 0
number_not_0 (NotACall k) e = omega arith
number_not_0 Unfit e = omega arith
number_not_0 NoSuchPage e = omega arith
number_not_0 LogFull e = omega arith

pub no_place : (c : CodeCall) → 0 ≡ place (meant c)
unfolding place
no_place (Read p) = refl
no_place (Write p bs) = refl
no_place Close = refl
no_place Size = refl

-- a work that writes nothing
idle_writes : (w : Work) (b : List Page) → w.plan ≡ Nothing → w.copy ≡ None → work_writes w b ≡ []
unfolding mirrored
idle_writes w b e f =
    let P : Plan → Type 0 = λ q. work_writes w b ≡ copy_writes w.copy w.block ++ mirrored copies (plan_puts q w.block b) in
    subst P e refl ∙ (let Q : Option ℕ → Type 0 = λ o. copy_writes o w.block ++ mirrored copies [] ≡ [] in subst Q (sym f) refl)

-- a call that is answered and writes nothing
pub idle_turn : (n : ℕ) (b : List Page) (c : Call) (page : Page) (t : Turn) (r : Told (Unit {0})) → t.reply ≡ r → t.work.plan ≡ Nothing → t.work.copy ≡ None →
    reply_means r page ≡ answer (limits n) (book_of b) c → [] ≡ puts_of (limits n) b c → TurnIs n b c page t
unfolding mirrored
idle_turn n b c page t r e f g a p = (
  ap (λ (x : Told (Unit {0})). reply_means x page) e ∙ a,
  idle_writes t.work b f g ∙ ap (mirrored copies) p,
  g,
  inl f,
)

-- bytes that are no call
pub garbled_turn : (n k : ℕ) (b : List Page) (page : Page) (t : Turn) (c : Call) → c ≡ book.garbled k → t.reply ≡ Refused (NotACall k) → t.work.plan ≡ Nothing → t.work.copy ≡ None →
    TurnIs n b c page t
unfolding place
garbled_turn n k b page t c e f g h =
    let P : Call → Type 0 = λ x. TurnIs n b x page t in
    let q : turned (limits n) (book_of b) (book.garbled k) ≡ 1 = turned_early n b (book.garbled k) tt 1 refl (λ z. omega arith) in
    subst P (sym e) (idle_turn n b (book.garbled k) page t (Refused (NotACall k)) f g h (refused_answer n b (book.garbled k) tt 1 k q (λ z. omega arith) refl) (refused_puts n b (book.garbled k) tt 1 q (λ z. omega arith)))

-- a call that is refused, early or late
pub refused_turn : (n : ℕ) (b : List Page) (c : Call) (page : Page) (t : Turn) (r : Refusal) → InBytes c → turned (limits n) (book_of b) c ≡ refusal_number r → refusal_place r ≡ place c →
    t.reply ≡ Refused r → t.work.plan ≡ Nothing → t.work.copy ≡ None → TurnIs n b c page t
refused_turn n b c page t r ok q p e f g =
    idle_turn n b c page t (Refused r) e f g (refused_answer n b c ok (refusal_number r) (refusal_place r) q (number_not_0 r) p) (refused_puts n b c ok (refusal_number r) q (number_not_0 r))

pub early_refused : (n : ℕ) (b : List Page) (c : Call) (r : Refusal) → InBytes c → refusal_number r ≡ early n c → turned (limits n) (book_of b) c ≡ refusal_number r
early_refused n b c r ok e = turned_early n b c ok (refusal_number r) e (number_not_0 r)

pub late_refused : (n : ℕ) (b : List Page) (c : Call) (r : Refusal) (k : ℕ) → InBytes c → early n c ≡ 0 → count b ≡ k → refusal_number r ≡ late k c → turned (limits n) (book_of b) c ≡ refusal_number r
late_refused n b c r k ok e f g = turned_late n b c ok e ∙ ap (λ x. late x c) f ∙ sym g

-- a page that is read
pub read_turn : (n a : ℕ) (b : List Page) (page : Page) (t : Turn) → early n (book.read a) ≡ 0 → page ≡ nth b (first_page + a) → t.reply ≡ PageRead tt → t.work.plan ≡ Nothing → t.work.copy ≡ None →
    TurnIs n b (book.read a) page t
unfolding told call_puts
read_turn n a b page t e p f g h =
    let q = turned_late n b (book.read a) tt e in
    idle_turn n b (book.read a) page t (PageRead tt) f g h (ap book.page (p ∙ sym (nth_from first_page b a)) ∙ taken_answer n b (book.read a) tt q) (taken_puts n b (book.read a) tt q)

pub size_turn : (n : ℕ) (b : List Page) (page : Page) (t : Turn) → early n book.size ≡ 0 → t.reply ≡ Number n → t.work.plan ≡ Nothing → t.work.copy ≡ None → TurnIs n b book.size page t
unfolding told call_puts
size_turn n b page t e f g h =
    let q = turned_late n b book.size tt e in
    idle_turn n b book.size page t (Number n) f g h (taken_answer n b book.size tt q) (taken_puts n b book.size tt q)

-- a write or a close that is taken
told_done : (n : ℕ) (b : List Page) (c : Call) → Logs c → told (limits n) (book_of b) c ≡ book.done
unfolding told
told_done n b (book.read a) l = absurd l
told_done n b (book.write a p) l = refl
told_done n b book.close l = refl
told_done n b book.size l = absurd l
told_done n b (book.garbled k) l = absurd l

carried : (n : ℕ) (c : Call) (given : Page) → early n c ≡ 0 → Carries c given → Gives c given
carried n (book.read a) given e f = tt
carried n (book.write a p) given e f = f (go (eqb (length p) 1024) _ refl e)
  where
    go : (t : Bool) (x : ℕ) → eqb (length p) 1024 ≡ t → ◌≡◌ {A = ℕ} (cond t x 2) 0 → length p ≡ 1024
    go true x q z = eqb-true _ _ q
    go false x q z = absurd (omega arith)
carried n book.close given e f = tt
carried n book.size given e f = tt
carried n (book.garbled k) given e f = tt

pub logged_turn : (n : ℕ) (b : List Page) (c : Call) (page : Page) (t : Turn) (k : ℕ) (p : Plan) (list block : Page) → InBytes c → Logs c → early n c ≡ 0 → count b ≡ k → late k c ≡ 0 → Carries c block →
    ((x : List Page) (given : Page) → count x ≡ k → Gives c given → plan_puts p given x ≡ call_puts x c) → nth b 1 ≡ list →
    t.reply ≡ Done → t.work.plan ≡ p → t.work.copy ≡ None → t.work.list ≡ list → t.work.block ≡ block → TurnIs n b c page t
logged_turn n b c page t k p list block ok logs e f l has puts ls done plan alone lists blocks =
    let q : turned (limits n) (book_of b) c ≡ 0 = turned_late n b c ok e ∙ ap (λ x. late x c) f ∙ l in
    let P : Option ℕ → Type 0 = λ o. copy_writes o t.work.block ++ both_writes t.work b ≡ mirrored copies (puts_of (limits n) b c) in
    let same : plan_puts t.work.plan t.work.block b ≡ plan_puts p block b = ap (λ (x : Plan). plan_puts x t.work.block b) plan ∙ ap (λ (x : Page). plan_puts p x b) blocks in (
      ap (λ (x : Told (Unit {0})). reply_means x page) done ∙ sym (told_done n b c logs) ∙ taken_answer n b c ok q,
      subst P (sym alone) (ap (mirrored copies) (same ∙ puts b block f (carried n c block e has) ∙ taken_puts n b c ok q)),
      alone,
      inr (ls ∙ sym lists),
    )

-- a call that came in bytes
not_garbled : (c : CodeCall) (k : ℕ) → meant c ≡ book.garbled k → ⊥
not_garbled (Read p) k e = let z : ◌≡◌ {A = ℕ} 0 1 = cc in omega arith
not_garbled (Write p bs) k e = let z : ◌≡◌ {A = ℕ} 0 1 = cc in omega arith
not_garbled Close k e = let z : ◌≡◌ {A = ℕ} 0 1 = cc in omega arith
not_garbled Size k e = let z : ◌≡◌ {A = ℕ} 0 1 = cc in omega arith

carried_in_bytes : (c : Call) → Carried c → InBytes c
carried_in_bytes (book.read a) h = tt
carried_in_bytes (book.write a p) h = h.1
carried_in_bytes book.close h = tt
carried_in_bytes book.size h = tt
carried_in_bytes (book.garbled k) h = tt

pub came_in_bytes : (bs : List ℕ) (c : CodeCall) → bytes bs ≡ true → meant c ≡ call_of bs → InBytes (meant c)
came_in_bytes bs c h e =
    let P : Call → Type 0 = λ x. InBytes x in
    subst P (sym e) (carried_in_bytes (call_of bs) (own_bytes bs h (λ k z. not_garbled c k (e ∙ z))).0)

pub logs_call : (c : CodeCall) → ((p : ℕ) × (bs : Bor (List ℕ)) × (c ≡ Write p bs)) ⊎ (c ≡ Close) → Logs (meant c)
logs_call c (inl (p, bs, e)) = let P : CodeCall → Type 0 = λ x. Logs (meant x) in subst P (sym e) tt
logs_call c (inr e) = let P : CodeCall → Type 0 = λ x. Logs (meant x) in subst P (sym e) tt

pub begun_as : (s t : Option Both) (n : ℕ) (c k : Call) (page : Page) (r : Option Turn) → c ≡ k → Begun s t n c page r → Begun s t n k page r
begun_as s t n c k page r e h = let P : Call → Type 0 = λ x. Begun s t n x page r in subst P e h

-- header and list, read at once
log_is : (b : List Page) (n : ℕ) (header list : Page) → header ≡ nth b 0 → list ≡ nth b 1 → length b ≡ n + first_page → (holds b ≡ log_holds header list n) × (count b ≡ log_count header list n)
log_is b n header list e f l =
    let p : pages_of b ≡ n = omega arith in
    (rw (e, f, p), rw (e, f, p))

pub log_was_read : (s t : Option Both) (n : ℕ) (out header list : Page) (r : Bool) (log : Log) → Fetched s t 0 out r → r ≡ true → length out ≡ 2048 → header ≡ block_of out 0 → list ≡ block_of out 1 →
    log.holds ≡ log_holds header list n → log.count.writes ≡ log_count header list n → LogRead s t n list (Some log)
log_was_read s t n out header list r log fetch good l hd ls ho co d e b agree len =
    let f = fetch d e in
    let g = f.4 good in
    let same : g.0 ≡ b = agreed d b g.0 agree g.1 in
    let h0 : header ≡ nth b 0 = hd ∙ g.2 0 (omega arith) ∙ ap (λ x. nth x 0) same in
    let h1 : list ≡ nth b 1 = ls ∙ g.2 1 (omega arith) ∙ ap (λ x. nth x 1) same in
    let z = log_is b n header list h0 h1 len in
    (f.0, f.1, f.2, (z.0 ∙ sym ho, z.1 ∙ sym co, sym h1))

pub not_read : (s t : Option Both) (from : ℕ) (out : Page) (r : Bool) → Fetched s t from out r → r ≡ false → (d : Both) → s ≡ Some d → (e : Both) × (t ≡ Some e) × Ran [] (view d) (view e) × (one_lives e ≡ false)
not_read s t from out r fetch bad d e = let f = fetch d e in (f.0, f.1, f.2, sym f.3 ∙ bad)

-- a page read where the disks agree
pub page_was_read : (s t : Option Both) (k : ℕ) (out : Page) (r : Bool) → Fetched s t k out r → r ≡ true → length out ≡ 1024 →
    (d : Both) → s ≡ Some d → (b : List Page) → Agree d b → (e : Both) × (t ≡ Some e) × Ran [] (view d) (view e) × (out ≡ nth b k)
page_was_read s t k out r fetch good l d e b agree =
    let f = fetch d e in
    let g = f.4 good in
    (f.0, f.1, f.2, shown_block out g.0 k l g.2 ∙ ap (λ x. nth x k) (agreed d b g.0 agree g.1))

-- a whole call
abbrev Have : View → List Page → Type 0
Have [] b = Unit {0}
Have (d ∷ v) b = (d.lives ≡ true → d.has ≡ b) × Have v b

have_killed : (b : List Page) (k : ℕ) (v : View) (i : ℕ) → Have v b → Have (killed_from i k v) b
unfolding killed_from
have_killed b k [] i h = tt
have_killed b k (d ∷ v) i h = (go (eqb i k), have_killed b k v (suc i) h.1)
  where
    go : (t : Bool) → (cond t (record { has = d.has; lives = false }) d).lives ≡ true → (cond t (record { has = d.has; lives = false }) d).has ≡ b
    go true l = absurd (both_ways false refl l)
    go false l = h.0 l

have_still : (b : List Page) {ws : List (On Put)} {v u : View} → ws ≡ [] → Ran ws v u → Have v b → Have u b
have_still b e stays h = h
have_still b e (writes w r) h = let z : ◌≡◌ {A = ℕ} 0 1 = cc in absurd (omega arith)
have_still b {v = v} e (dies k r) h = have_still b e r (have_killed b k v 0 h)

pub agree_still : (b : List Page) (d e : Both) → Ran [] (view d) (view e) → Agree d b → Agree e b
agree_still b d e r a = let h = have_still b refl r (a.0, (a.1, tt)) in (h.0, h.1.0)

agree_log : (b : List Page) (d : Both) → Agree d b → LogSame (view d) b
agree_log b d a = ((λ l i q. ap (λ x. nth x (2 + i)) (a.0 l)), ((λ l i q. ap (λ x. nth x (2 + i)) (a.1 l)), tt))

-- the writes of a work that knows its list, or has none to do
done_from : (t u : Option Both) (w : Work) (r : Bool) (b : List Page) → Finished t u w r → w.copy ≡ None → KnowsList w b → (d : Both) → t ≡ Some d → Agree d b →
    (e : Both) × (u ≡ Some e) × Ran (work_writes w b) (view d) (view e) × (r ≡ one_lives e)
unfolding nth
done_from t u w r b fin alone (inl e) d is a =
    let x : List Page = [] ∷ (w.list ∷ []) in
    let C : Option ℕ → Type 0 = λ o. Copies o w.block x in
    let R : Plan → Type 0 = λ q. replays q ≡ true → LogSame (view d) x in
    let f = fin d is x refl (subst R (sym e) (λ z. absurd (both_ways false refl z))) (subst C (sym alone) tt) in
    let P : List (On Put) → Type 0 = λ ws. Ran ws (view d) (view f.0) in
    (f.0, f.1, subst P (idle_writes w x e alone ∙ sym (idle_writes w b e alone)) f.2, f.3)
done_from t u w r b fin alone (inr l) d is a =
    let C : Option ℕ → Type 0 = λ o. Copies o w.block b in
    fin d is b l (λ _. agree_log b d a) (subst C (sym alone) tt)

abbrev WrittenOut : Option Both → Option Both → ℕ → Call → Page → Turn → Bool → Type 0
WrittenOut s u n c page t r =
    (d : Both) → s ≡ Some d → (b : List Page) → Agree d b → length b ≡ n + first_page →
    (e : Both) × (u ≡ Some e) × Ran (mirrored copies (puts_of (limits n) b c)) (view d) (view e) × (r ≡ one_lives e) × (reply_means t.reply page ≡ answer (limits n) (book_of b) c)

written_out : (s t u : Option Both) (n : ℕ) (c : Call) (page : Page) (x : Turn) (r : Bool) → Begun s t n c page (Some x) → Finished t u x.work r → WrittenOut s u n c page x r
written_out s t u n c page x r begun fin d is b agree len =
    let h = begun d is b agree len in
    let f = done_from t u x.work r b fin h.3.2 h.3.3 h.0 h.1 (agree_still b d h.0 h.2 agree) in
    let P : List (On Put) → Type 0 = λ ws. Ran ws (view h.0) (view f.0) in
    (f.0, f.1, ran_more h.2 (subst P h.3.1 f.2), f.3, h.3.0)

pub answered : (s t u : Option Both) (n : ℕ) (c : Call) (page : Page) (x : Turn) (r : Bool) → Begun s t n c page (Some x) → Finished t u x.work r → r ≡ true → Answered s u n c page (Some x.reply)
answered s t u n c page x r begun fin good d is b agree len =
    let f = written_out s t u n c page x r begun fin d is b agree len in
    (f.0, f.1, f.2, (sym f.3 ∙ good, f.4))

pub died_answering : (s t u : Option Both) (n : ℕ) (c : Call) (page : Page) (x : Turn) (r : Bool) → Begun s t n c page (Some x) → Finished t u x.work r → r ≡ false → Answered s u n c page None
died_answering s t u n c page x r begun fin bad d is b agree len =
    let f = written_out s t u n c page x r begun fin d is b agree len in
    (f.0, f.1, f.2, sym f.3 ∙ bad)

pub died_beginning : (s t : Option Both) (n : ℕ) (c : Call) (page : Page) → Begun s t n c page None → Answered s t n c page None
died_beginning s t n c page begun d is b agree len =
    let h = begun d is b agree len in
    (h.0, h.1, ran_more h.2 (ran_dead (mirrored copies (puts_of (limits n) b c)) (view h.0) (both_dead h.0 h.3)), h.3)

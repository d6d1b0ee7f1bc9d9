-- The same steps, in the terms in which the code has them: what happened as a vector that grows at its end,
-- the call under way as an option, and tests in place of equations.
use Rattle.std.proofs.Common.{◌≡◌, ℕ, ◌*◌, ◌/◌, Bool, true, false, not, leb, List, [], ◌∷◌, ◌++◌, length, drop, is_some, Some, None, Option, sym, refl, ap, ◌∙◌, subst, arith, drop_of_length-le}
use lib.Seq.{drop-length}
use Rattle.std.proofs.lemmas.Bool.{both_ways, leb-true}
use Rattle.model.specs.Book.{Page, Call, Answer}
use Rattle.model.specs.Disks.{Happening, cut}
use Rattle.model.specs.Disks as disks
use Rattle.device.specs.Ran.{Ran, Both, view, one_lives, Fetched}
use Rattle.wire.specs.Answers.{repaged}
use Rattle.wire.specs.declared.answer.Answer as answers
use Rattle.wire.specs.declared.answer.Answer.TheVariants.{Refused, Done, Page as PageTold, Number}
use Rattle.engine.specs.declared.work.Work.{Work}
use Rattle.engine.specs.declared.call.Turn.{Turn}
use Rattle.engine.specs.Works.{work_writes}
use Rattle.engine.specs.Calling.{reply_means, Begun}
use Rattle.engine.specs.Recovering.{OfPages, RecoveryBegun}
use Rattle.engine.specs.Making.{Makes}
use Rattle.engine.specs.Living.{MakingLives}
use Rattle.wire.specs.Calls.{call_of}
use Rattle.world.specs.declared.history.Under.{Under}
use Rattle.world.specs.declared.history.Event.{Event}
use Rattle.world.specs.declared.history.Event.TheVariants.{Answered}
use Rattle.world.specs.Means.{told_answer, event_of, past_of, under_of}
use Rattle.world.specs.Reached.{Reached}
use Rattle.world.proofs.Lists.{some_same}
use Rattle.world.proofs.Steps.{died, told, up_again, began, began_none, power_gone, power_gone_again, power_kept, new_world}

pub untouched : (t : Bool) → not t ≡ true → t ≡ false
untouched true h = sym h
untouched false h = refl

-- all is written
pub nothing_left : (w : Work) (k : ℕ) → ((b : List Page) → true ≡ leb (length (work_writes w b)) k) → (b : List Page) → drop k (work_writes w b) ≡ []
nothing_left w k h b = drop_of_length-le (work_writes w b) (leb-true (length (work_writes w b)) k (sym (h b)))

pub all_done : (w : Work) (k : ℕ) → ((b : List Page) → k ≡ length (work_writes w b)) → (b : List Page) → drop k (work_writes w b) ≡ []
all_done w k h b = ap (λ j. drop j (work_writes w b)) (h b) ∙ drop-length (work_writes w b)

-- one more thing happened
past_more : (es : List Event) (e : Event) (hs : List Happening) → past_of (es ++ (e ∷ [])) hs ≡ event_of e ∷ past_of es hs
unfolding past_of
past_more [] e hs = refl
past_more (x ∷ es) e hs = past_more es e (event_of x ∷ hs)

pub past_grown : (es fs : List Event) (e : Event) → fs ≡ es ++ (e ∷ []) → past_of fs [] ≡ event_of e ∷ past_of es []
past_grown es fs e f = ap (λ x. past_of x []) f ∙ past_more es e []

pub past_none : (es : List Event) → es ≡ [] → past_of es [] ≡ []
unfolding past_of
past_none es e = ap (λ x. past_of x []) e

pub nobody : (u : Option Under) → is_some u ≡ false → under_of u ≡ []
nobody None e = refl
nobody (Some x) e = absurd (both_ways true e refl)

-- an answer with the page inside means what it meant with the page beside it
pub told_repaged : (r : answers.Answer (Unit {0})) (p : Page) → reply_means r p ≡ told_answer (repaged r p)
told_repaged (Refused x) p = refl
told_repaged Done p = refl
told_repaged (PageTold u) p = refl
told_repaged (Number x) p = refl

-- nothing happened
pub past_kept : (d : Both) (n : ℕ) (up : Bool) (w : Work) (k : ℕ) (held : Page) (un : List disks.Under) (es fs : List Event) → fs ≡ es →
    Reached d n up w k held un (past_of es []) → Reached d n up w k held un (past_of fs [])
past_kept d n up w k held un es fs e q = let P : List Event → Type 0 = λ x. Reached d n up w k held un (past_of x []) in subst P (sym e) q

module _ (d : Both) (n : ℕ) (w : Work) (k : ℕ) (held : Page) where
  pub tells : (up : Bool) (un : Option Under) (u : Under) (es fs : List Event) → up ≡ true → one_lives d ≡ true → ((b : List Page) → drop k (work_writes w b) ≡ []) → un ≡ Some u →
      fs ≡ es ++ (Answered u.call u.answer ∷ []) → Reached d n up w k held (under_of un) (past_of es []) → Reached d n up w k held [] (past_of fs [])
  tells up un u es fs is al none e f q =
      let U : Bool → Type 0 = λ x. Reached d n x w k held (under_of un) (past_of es []) in
      let V : Option Under → Type 0 = λ x. Reached d n true w k held (under_of x) (past_of es []) in
      let P : List Happening → Type 0 = λ hs. Reached d n true w k held [] hs in
      let W : Bool → Type 0 = λ x. Reached d n x w k held [] (past_of fs []) in
      subst W (sym is) (subst P (sym (past_grown es fs (Answered u.call u.answer) f))
      (told d n w k held (call_of u.call) (told_answer u.answer) (past_of es []) al none (subst V e (subst U is q))))

  pub rises : (up : Bool) (un : List disks.Under) (hs : List Happening) → up ≡ false → ((b : List Page) → drop k (work_writes w b) ≡ []) → Reached d n up w k held un hs → Reached d n true w k held [] hs
  rises up un hs is none q =
      let U : Bool → Type 0 = λ x. Reached d n x w k held un hs in
      up_again d n w k held un hs none (subst U is q)

  module _ (e : Both) where
    pub starts : (up : Bool) (un : Option Under) (t : Turn) (a : List ℕ) (said : answers.Answer Page) (held' : Page) (c : Call) (page : Page) (hs : List Happening) → up ≡ true → is_some un ≡ false → one_lives d ≡ true →
        ((b : List Page) → drop k (work_writes w b) ≡ []) → c ≡ call_of a → said ≡ repaged t.reply page → Begun (Some d) (Some e) n c page (Some t) →
        Reached d n up w k held (under_of un) hs → Reached e n up t.work 0 held' (record { call = call_of a; answer = told_answer said; memory = [] } ∷ []) hs
    starts up un t a said held' c page hs is nb al none same told_is start q =
        let U : Bool → Type 0 = λ x. Reached d n x w k held (under_of un) hs in
        let V : List disks.Under → Type 0 = λ x. Reached d n true w k held x hs in
        let C : Call → Type 0 = λ x. Begun (Some d) (Some e) n x page (Some t) in
        let A : Answer → Type 0 = λ x. Reached e n true t.work 0 held' (record { call = call_of a; answer = x; memory = [] } ∷ []) hs in
        let W : Bool → Type 0 = λ x. Reached e n x t.work 0 held' (record { call = call_of a; answer = told_answer said; memory = [] } ∷ []) hs in
        subst W (sym is) (subst A (told_repaged t.reply page ∙ ap told_answer (sym told_is))
        (began d e n w k held held' t (call_of a) page hs al none (subst C same start) (subst V (nobody un nb) (subst U is q))))

    pub starts_none : (up : Bool) (un : Option Under) (c : Call) (page : Page) (hs : List Happening) → up ≡ true → is_some un ≡ false → one_lives d ≡ true →
        ((b : List Page) → drop k (work_writes w b) ≡ []) → Begun (Some d) (Some e) n c page None → Reached d n up w k held (under_of un) hs → Reached e n up w k held (under_of un) hs
    starts_none up un c page hs is nb al none begun q =
        let V : List disks.Under → Type 0 = λ x. Reached d n up w k held x hs in
        let W : List disks.Under → Type 0 = λ x. Reached e n up w k held x hs in
        let z = nobody un nb in
        subst W (sym z) (began_none d e n up w k held c page hs is al none begun (subst V z q))

    pub stops : (up : Bool) (un : Option Under) (t : Work) (held' : Page) (es fs : List Event) (x : Event) → up ≡ true → one_lives d ≡ true → RecoveryBegun (Some d) (Some e) n (Some t) →
        held' ≡ t.block → fs ≡ es ++ (x ∷ []) → ((hs : List Happening) → event_of x ∷ hs ≡ cut (under_of un) hs) → Reached d n up w k held (under_of un) (past_of es []) →
        Reached e n false t 0 held' [] (past_of fs [])
    stops up un t held' es fs x is al begun h f g q =
        let U : Bool → Type 0 = λ y. Reached d n y w k held (under_of un) (past_of es []) in
        let P : List Happening → Type 0 = λ hs. Reached e n false t 0 held' [] hs in
        subst P (sym (past_grown es fs x f ∙ g (past_of es []))) (power_gone d e n w k held held' t (under_of un) (past_of es []) al begun h (subst U is q))

    -- what happened could not be noted
    pub stops_not : (up : Bool) (un : List disks.Under) (t : Work) (es fs : List Event) → one_lives d ≡ true → RecoveryBegun (Some d) (Some e) n (Some t) → fs ≡ es →
        Reached d n up w k held un (past_of es []) → Reached e n up w k held un (past_of fs [])
    stops_not up un t es fs al begun same q = past_kept e n up w k held un es fs same (power_kept d e n up w k held t un (past_of es []) al begun q)

    pub stops_again : (up : Bool) (un : List disks.Under) (t : Work) (held' : Page) (hs : List Happening) → up ≡ false → one_lives d ≡ true → RecoveryBegun (Some d) (Some e) n (Some t) →
        held' ≡ t.block → Reached d n up w k held un hs → Reached e n up t 0 held' [] hs
    stops_again up un t held' hs is al begun h q =
        let U : Bool → Type 0 = λ y. Reached d n y w k held un hs in
        let W : Bool → Type 0 = λ y. Reached e n y t 0 held' [] hs in
        subst W (sym is) (power_gone_again d e n w k held held' t un hs al begun h (subst U is q))

-- blocks were read off one of the disks
pub read_on : (d e : Both) (n : ℕ) (up : Bool) (w : Work) (k : ℕ) (held : Page) (un : List disks.Under) (hs : List Happening) (from : ℕ) (out : List ℕ) (r : Bool) →
    Fetched (Some d) (Some e) from out r → Reached d n up w k held un hs → Reached e n up w k held un hs
read_on d e n up w k held un hs from out r fetch q =
    let f = fetch d refl in
    let E : Both → Type 0 = λ y. Ran [] (view d) (view y) in
    died d e n up w k held un hs (subst E (sym (some_same e f.0 f.1)) f.2) q

-- new disks
pub makes : (d e : Both) (n : ℕ) (w : Work) (k : ℕ) (held : Page) (r : Bool) (es : List Event) → Makes n (Some w) → OfPages n d → ((b : List Page) → k ≡ length (work_writes w b)) →
    MakingLives (Some d) (Some e) n r → es ≡ [] → Reached e n true w k held [] (past_of es [])
makes d e n w k held r es m long done made none =
    let P : List Happening → Type 0 = λ hs. Reached e n true w k held [] hs in
    subst P (sym (past_none es none)) (new_world d e n w k held r (m.0, m.1) long m.4 m.3 (all_done w k done) made)

-- another world like it
pub copied : (d e : Both) (n : ℕ) (up : Bool) (w : Work) (k : ℕ) (held : Page) (un : List disks.Under) (es fs : List Event) →
    e.first.has ≡ d.first.has → e.first.lives ≡ d.first.lives → e.second.has ≡ d.second.has → e.second.lives ≡ d.second.lives → fs ≡ es →
    Reached d n up w k held un (past_of es []) → Reached e n up w k held un (past_of fs [])
copied d e n up w k held un es fs a b x y z q =
    let P : Both → Type 0 = λ v. Reached v n up w k held un (past_of fs []) in
    let same : d ≡ e = λ i. record { first = record { has = sym a i; lives = sym b i }; second = record { has = sym x i; lives = sym y i } } in
    subst P same (past_kept d n up w k held un es fs z q)

-- how many blocks a disk has that is so many bytes long
pub raw_blocks : (n : ℕ) → 1024 * n / 1024 ≡ n
raw_blocks n = omega arith

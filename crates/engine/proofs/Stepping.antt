-- The steps of a work, one after the other, each on the first disk and then on the second: what was done of
-- them is what the model writes, and pages of the log can be read at every step, since no step of a close or
-- of recovery changes the log.
use Rattle.std.proofs.Common.{◌≡◌, ℕ, zero, suc, ◌+◌, ◌<◌, ◌≤◌, Bool, true, false, List, [], ◌∷◌, ◌++◌, length, get_or, take, drop, Some, None, Option, sym, refl, ap, ◌∙◌, subst, inr, add-one, arith}
use Rattle.std.specs.List.{slice_get as item}
use Rattle.std.proofs.lemmas.List.{take-append-drop, take_all}
use Rattle.model.specs.Numbers.{copies}
use Rattle.model.specs.Book.{Page, nth}
use Rattle.model.specs.Disks.{On, on}
use Rattle.model.specs.Plain.{Put}
use Rattle.mirror.specs.Mirror.{numbers, on_each, mirrored}
use Rattle.device.specs.declared.mirror.Side.{Side}
use Rattle.device.specs.declared.mirror.Side.TheVariants.{First, Second}
use Rattle.device.specs.Ran.{Ran, stays, Both, view, one_lives, TellsLife}
use Rattle.device.proofs.Runs.{ran_more}
use Rattle.journal.specs.Plans.{replays, content, step_put}
use Rattle.journal.specs.declared.plan.Step.{Step}
use Rattle.engine.specs.declared.write.Write.{Write}
use Rattle.engine.specs.declared.write.WriteKind.TheVariants.{Copied, Journal}
use Rattle.engine.specs.declared.work.Work.{Work}
use Rattle.engine.specs.Works.{copy_writes, both_writes}
use Rattle.engine.specs.Doing.{LogSame, Performed, one_of, steps_of, Halfway, Stepped, PutSome, PutAll, Copies, Finished}
use Rattle.engine.proofs.Doing.{ran_dead, both_dead}
use Rattle.engine.proofs.LogKept.{ran_keeps, keep_take, keep_mirrored, replay_keeps}

-- one of the two writes of a step
abbrev pub on_side : Side → Step → Write
on_side s st = record { disk = s; block = st.block; kind = Journal st.kind }

abbrev pub both_sides : Page → List Page → Step → List (On Put)
both_sides kept b st = on 0 (step_put kept b st) ∷ (on 1 (step_put kept b st) ∷ [])

abbrev pub Half : Option Both → Option Both → Work → Step → ℕ → Page → Bool → Type 0
Half s u w st j held r =
    (d : Both) → s ≡ Some d → (b : List Page) → nth b 1 ≡ w.list → (replays w.plan ≡ true → LogSame (view d) b) →
    (e : Both) × (u ≡ Some e) × Ran (take j (both_sides w.block b st)) (view d) (view e) × (r ≡ one_lives e) × (r ≡ true → held ≡ content w.block b st.kind)

pub half_more : (s t u : Option Both) (w : Work) (st : Step) (j : ℕ) (sd : Side) (held held' : Page) (r : Bool) → j < 2 → sd ≡ get_or (First ∷ (Second ∷ [])) j First →
    Halfway s t w st j held → Performed t u w (on_side sd st) held held' r → Half s u w st (j + 1) held' r
half_more s t u w st zero sd held held' r l q half done d e b list late =
    let h = half d e b list late in
    let P : Side → Type 0 = λ z. Performed t u w (on_side z st) held held' r in
    let g = subst P q done h.0 h.1 b list (let L : Both → Type 0 = λ x. LogSame (view x) b in λ z. subst L (sym (h.3 refl)) (late z)) in
    (g.0, g.1, ran_more h.2 g.2, g.3, g.4)
half_more s t u w st (suc zero) sd held held' r l q half done d e b list late =
    let h = half d e b list late in
    let P : Side → Type 0 = λ z. Performed t u w (on_side z st) held held' r in
    let g = subst P q done h.0 h.1 b list (h.4 (omega arith)) in
    (g.0, g.1, ran_more h.2 g.2, g.3, g.4)
half_more s t u w st (suc (suc j)) sd held held' r l q half done d e b list late = absurd (omega arith)

pub halfway_on : (s u : Option Both) (w : Work) (st : Step) (j : ℕ) (held : Page) (r : Bool) → Half s u w st (j + 1) held r → r ≡ true → Halfway s u w st (j + 1) held
halfway_on s u w st j held r half h d e b list late =
    let g = half d e b list late in
    (g.0, g.1, g.2, (λ z. absurd (omega arith)), λ _. g.4 h)

pub halfway_none : (s : Option Both) (w : Work) (st : Step) (held : Page) → Halfway s s w st 0 held
halfway_none s w st held d e b list late = (d, e, stays, (λ _. refl), λ z. absurd (omega arith))

step_mirrored : (w : Work) (b : List Page) (i : ℕ) (st : Step) → Some (step_put w.block b st) ≡ item (steps_of w b) i → both_sides w.block b st ≡ mirrored copies (one_of (item (steps_of w b) i))
unfolding mirrored on_each numbers
step_mirrored w b i st e = rw (sym e)

-- both disks died on the way: what is left of the step is nothing
pub half_dead : (s u : Option Both) (w : Work) (st : Step) (i j : ℕ) (held : Page) (r : Bool) → ((b : List Page) → nth b 1 ≡ w.list → Some (step_put w.block b st) ≡ item (steps_of w b) i) →
    Half s u w st j held r → r ≡ false → Stepped s u w i false
half_dead s u w st i j held r is half h d e b list late =
    let g = half d e b list late in
    let gone : one_lives g.0 ≡ false = sym g.3 ∙ h in
    let all = ran_more g.2 (ran_dead (drop j (both_sides w.block b st)) (view g.0) (both_dead g.0 gone)) in
    let P : List (On Put) → Type 0 = λ ws. Ran ws (view d) (view g.0) in
    (g.0, g.1, subst P (take-append-drop j (both_sides w.block b st) ∙ step_mirrored w b i st (is b list)) all, sym gone)

pub half_done : (s u : Option Both) (w : Work) (st : Step) (i j : ℕ) (held : Page) (q : Bool) → ((b : List Page) → nth b 1 ≡ w.list → Some (step_put w.block b st) ≡ item (steps_of w b) i) →
    2 ≤ j → Halfway s u w st j held → TellsLife u q → Stepped s u w i q
half_done s u w st i j held q is l half life d e b list late =
    let g = half d e b list late in
    let P : List (On Put) → Type 0 = λ ws. Ran ws (view d) (view g.0) in
    (g.0, g.1, subst P (take_all j (both_sides w.block b st) l ∙ step_mirrored w b i st (is b list)) g.2, life g.0 g.1)

pub no_step : (s : Option Both) (w : Work) (i : ℕ) (q : Bool) → ((b : List Page) → nth b 1 ≡ w.list → None ≡ item (steps_of w b) i) → TellsLife s q → Stepped s s w i q
unfolding mirrored
no_step s w i q is life d e b list late =
    let P : Option Put → Type 0 = λ o. Ran (mirrored copies (one_of o)) (view d) (view d) in
    (d, e, subst P (is b list) stays, life d e)

-- one step more
mirrored_append : {I : Type 0} (xs ys : List I) → mirrored copies xs ++ mirrored copies ys ≡ mirrored copies (xs ++ ys)
unfolding mirrored on_each numbers
mirrored_append [] ys = refl
mirrored_append (x ∷ xs) ys = ap (λ zs. on 0 x ∷ (on 1 x ∷ zs)) (mirrored_append xs ys)

take_one : (ps : List Put) (i : ℕ) → take i ps ++ one_of (item ps i) ≡ take (suc i) ps
take_one [] zero = refl
take_one [] (suc i) = refl
take_one (p ∷ ps) zero = refl
take_one (p ∷ ps) (suc i) = ap (λ qs. p ∷ qs) (take_one ps i)

abbrev SomePut : Option Both → Option Both → Work → ℕ → Bool → Type 0
SomePut s u w i r =
    (d : Both) → s ≡ Some d → (b : List Page) → nth b 1 ≡ w.list → (replays w.plan ≡ true → LogSame (view d) b) →
    (e : Both) × (u ≡ Some e) × Ran (mirrored copies (take (i + 1) (steps_of w b))) (view d) (view e) × (r ≡ one_lives e)

pub some_more : (s t u : Option Both) (w : Work) (i : ℕ) (r : Bool) → PutSome s t w i → Stepped t u w i r → SomePut s u w i r
some_more s t u w i r some step d e b list late =
    let h = some d e b list late in
    let keep : replays w.plan ≡ true → LogSame (view h.0) b =
    λ z. ran_keeps b (keep_mirrored b (take i (steps_of w b)) (keep_take b (steps_of w b) i (replay_keeps w.plan w.block b z))) h.2 (late z) in
    let g = step h.0 h.1 b list keep in
    let P : List (On Put) → Type 0 = λ ws. Ran ws (view d) (view g.0) in
    let is : mirrored copies (take i (steps_of w b)) ++ mirrored copies (one_of (item (steps_of w b) i)) ≡ mirrored copies (take (i + 1) (steps_of w b)) =
    mirrored_append (take i (steps_of w b)) (one_of (item (steps_of w b) i)) ∙ ap (mirrored copies) (take_one (steps_of w b) i ∙ ap (λ n. take n (steps_of w b)) (sym (add-one i))) in
    (g.0, g.1, subst P is (ran_more h.2 g.2), g.3)

pub some_on : (s t u : Option Both) (w : Work) (i : ℕ) (r : Bool) → PutSome s t w i → Stepped t u w i r → PutSome s u w (i + 1)
some_on s t u w i r some step d e b list late = let g = some_more s t u w i r some step d e b list late in (g.0, g.1, g.2)

pub some_none : (s : Option Both) (w : Work) → PutSome s s w 0
unfolding mirrored
some_none s w d e b list late = (d, e, stays)

pub all_dead : (s t u : Option Both) (w : Work) (i : ℕ) (r : Bool) → PutSome s t w i → Stepped t u w i r → r ≡ false → PutAll s u w false
all_dead s t u w i r some step h d e b list late =
    let g = some_more s t u w i r some step d e b list late in
    let gone : one_lives g.0 ≡ false = sym g.3 ∙ h in
    let ps : List Put = steps_of w b in
    let P : List (On Put) → Type 0 = λ ws. Ran ws (view d) (view g.0) in
    let is : mirrored copies (take (i + 1) ps) ++ mirrored copies (drop (i + 1) ps) ≡ both_writes w b = mirrored_append (take (i + 1) ps) (drop (i + 1) ps) ∙ ap (mirrored copies) (take-append-drop (i + 1) ps) in
    (g.0, g.1, subst P is (ran_more g.2 (ran_dead (mirrored copies (drop (i + 1) ps)) (view g.0) (both_dead g.0 gone))), sym gone)

pub all_done : (s u : Option Both) (w : Work) (i : ℕ) (q : Bool) → ((b : List Page) → length (steps_of w b) ≤ i) → PutSome s u w i → TellsLife u q → PutAll s u w q
all_done s u w i q l some life d e b list late =
    let g = some d e b list late in
    let P : List Put → Type 0 = λ ps. Ran (mirrored copies ps) (view d) (view g.0) in
    (g.0, g.1, subst P (take_all i (steps_of w b) (l b)) g.2, life g.0 g.1)

-- with the copy before, or without one
pub finished_copied : (s t u : Option Both) (w : Work) (k : ℕ) (held held' : Page) (p r : Bool) → w.copy ≡ Some k →
    Performed s t w (record { disk = Second; block = k; kind = Copied }) held held' p → PutAll t u w r → Finished s u w r
finished_copied s t u w k held held' p r is copied all d e b list late same =
    let h = copied d e b list tt in
    let C : Option ℕ → Type 0 = λ o. Copies o w.block b in
    let keep : replays w.plan ≡ true → LogSame (view h.0) b = λ z. ran_keeps b (inr (subst C is same), tt) h.2 (late z) in
    let g = all h.0 h.1 b list keep in
    let P : Option ℕ → Type 0 = λ o. Ran (copy_writes o w.block ++ both_writes w b) (view d) (view g.0) in
    (g.0, g.1, subst P (sym is) (ran_more h.2 g.2), g.3)

pub finished_dead : (s t : Option Both) (w : Work) (k : ℕ) (held held' : Page) (p : Bool) → w.copy ≡ Some k →
    Performed s t w (record { disk = Second; block = k; kind = Copied }) held held' p → p ≡ false → Finished s t w false
finished_dead s t w k held held' p is copied no_more d e b list late same =
    let h = copied d e b list tt in
    let gone : one_lives h.0 ≡ false = sym h.3 ∙ no_more in
    let P : Option ℕ → Type 0 = λ o. Ran (copy_writes o w.block ++ both_writes w b) (view d) (view h.0) in
    (h.0, h.1, subst P (sym is) (ran_more h.2 (ran_dead (both_writes w b) (view h.0) (both_dead h.0 gone))), sym gone)

pub finished_alone : (s u : Option Both) (w : Work) (r : Bool) → w.copy ≡ None → PutAll s u w r → Finished s u w r
finished_alone s u w r is all d e b list late same =
    let g = all d e b list late in
    let P : Option ℕ → Type 0 = λ o. Ran (copy_writes o w.block ++ both_writes w b) (view d) (view g.0) in
    (g.0, g.1, subst P (sym is) g.2, g.3)

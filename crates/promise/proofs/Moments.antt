-- The register at any moment: any two living disks differ in one block at most; where the log holds, list
-- and log are the same on all; and a page that is written next is as the log of each disk has it, so that
-- it may be read from any of them when it is written; and every header is one that a register writes.
use Rattle.std.proofs.Common.{◌≡◌, ℕ, zero, suc, ◌+◌, ◌<◌, ◌≤◌, Bool, true, false, cond, ◌⊎◌, List, [], ◌∷◌, sym, refl, ap, ◌∙◌, subst, inl, inr, add-zero, zero-add, arith}
use Rattle.std.proofs.lemmas.Bool.{cases_lt, cases_eq, both_ways}
use Rattle.model.specs.Numbers.{room, first_page}
use Rattle.model.specs.Book.{Page, nth, set_page}
use Rattle.model.specs.Disks.{Disk, On}
use Rattle.model.specs.Plain.{Put, put, plain}
use Rattle.model.specs.Promise.{same_page, differ}
use Rattle.model.specs.Statements.{AllLive, OneDiffers}
use Rattle.model.proofs.Lists.{nth_set_other, same_page_refl}
use Rattle.model.proofs.Puts.{In}
use Rattle.model.proofs.Safely.{safe_here}
use Rattle.mirror.proofs.Each.{Each, Has, each_map}
use Rattle.mirror.proofs.Replicas.{Ahead, Shape, agree, ahead, next}
use Rattle.layout.specs.Reading.{sane}
use Rattle.journal.specs.Journal.{holds, count, entry, entries_from, pages_of}
use Rattle.journal.proofs.Log.{Allowed, Sound, sound_sane, count_few, count_same, holds_same, high_low, entry_high, replayed_holds}
use Rattle.promise.specs.Register.{register}
use Rattle.promise.specs.LateReading.{LogSame, ReadsLate, HeadersSane}
use Rattle.promise.proofs.Right.{any_moment}

-- each disk that lives has one of two
module _ (s t : List Page) where
  abbrev OneOf : ℕ → Disk (List Page) → Type 0
  OneOf i y = y.lives ≡ true → (y.has ≡ s) ⊎ (y.has ≡ t)

  pub either_live : (R : List Page → Type 0) → R s → R t → (i : ℕ) (d : List (Disk (List Page))) → Each OneOf i d → AllLive R d
  either_live R rs rt i [] h = tt
  either_live R rs rt i (y ∷ d) h = ((λ l. elim (h.0 l) [ inl e ↦ subst R (sym e) rs | inr e ↦ subst R (sym e) rt ]), either_live R rs rt (suc i) d h.1)

  pairs_live : (R : List Page → List Page → Type 0) → R s s → R s t → R t s → R t t → (d : List (Disk (List Page))) → Each OneOf 0 d → AllLive (λ a. AllLive (λ b. R a b) d) d
  pairs_live R ss st ts tt' d h = either_live (λ a. AllLive (λ b. R a b) d) (either_live (R s) ss st 0 d h) (either_live (R t) ts tt' 0 d h) 0 d h

-- what holds of each pair of states that a shape allows holds of each pair of living disks
shape_pairs : (G : List Page → Put → Type 0) (P Q : List Page → Type 0) (R : List Page → List Page → Type 0) →
    ((s : List Page) → P s → R s s) → ((s : List Page) (x : Put) → P s → P (put x s) → G s x → R s (put x s) × R (put x s) s) →
    (d : List (Disk (List Page))) (todo : List (On Put)) → Shape put G P Q d todo → AllLive (λ a. AllLive (λ b. R a b) d) d
shape_pairs G P Q R same one d todo (agree s xs al has e safe) =
    let p = safe_here put G P Q s xs safe in
    pairs_live s s R (same s p) (same s p) (same s p) (same s p) d (each_map (Has s) _ (λ i y h l. inl (h l)) 0 d has)
shape_pairs G P Q R same one d todo (ahead s x xs j is al asc h e p g safe) =
    let q = safe_here put G P Q (put x s) xs safe in
    let r = one s x p q g in
    pairs_live s (put x s) R (same s p) r.0 r.1 (same (put x s) q) d
    (each_map (Ahead j is s (put x s)) _ (λ i y c l. elim (cases_lt i j) [ inl z ↦ inr ((c l).0 z) | inr z ↦ inl ((c l).1 z).0 ]) 0 d h)

-- one block that differs
differ_same : (b : List Page) → differ b b ≡ 0
unfolding differ
differ_same [] = refl
differ_same (x ∷ b) = rw (same_page_refl x, differ_same b)

at_most_one : (t : Bool) → cond t 0 1 + 0 ≤ 1
at_most_one true = omega arith
at_most_one false = omega arith

differ_one : (b : List Page) (i : ℕ) (x : Page) → differ (set_page b i x) b ≤ 1
unfolding differ set_page
differ_one [] i x = omega arith
differ_one (y ∷ b) zero x = rw (differ_same b) (at_most_one (same_page x y))
differ_one (y ∷ b) (suc i) x = rw (same_page_refl y, zero-add) (differ_one b i x)

differ_back : (b : List Page) (i : ℕ) (x : Page) → differ b (set_page b i x) ≤ 1
unfolding differ set_page
differ_back [] i x = omega arith
differ_back (y ∷ b) zero x = rw (differ_same b) (at_most_one (same_page y x))
differ_back (y ∷ b) (suc i) x = rw (same_page_refl y, zero-add) (differ_back b i x)

pub one_differs : OneDiffers plain register
unfolding OneDiffers
one_differs l w size lived =
    shape_pairs _ _ _ (λ a b. differ a b ≤ 1) (λ s p. omega (arith, differ_same s)) (λ s x p q g. (differ_back s x.block x.content, differ_one s x.block x.content)) w.disks w.todo
    (any_moment l size w lived)

-- where the log holds
abbrev SameLog : List Page → List Page → Type 0
SameLog s t = holds s ≡ true → (j : ℕ) → 0 < j → j < first_page → nth s j ≡ nth t j

put_same_log : (n : ℕ) (s : List Page) (x : Put) → Sound n s → Sound n (put x s) → Allowed n s x → SameLog s (put x s) × SameLog (put x s) s
put_same_log n s x a b g = ((λ h j low high. sym (go j low high (inl h) (cases_eq x.block j))), (λ h j low high. go j low high (inr h) (cases_eq x.block j)))
  where
    go : (j : ℕ) → 0 < j → j < first_page → (holds s ≡ true) ⊎ (holds (put x s) ≡ true) → (x.block ≡ j) ⊎ (x.block ≡ j → ⊥) → nth (put x s) j ≡ nth s j
    go j low high h (inr q) = nth_set_other s x.block j x.content q
    go j low high h (inl q) =
        let free : holds s ≡ false = g.to_log (omega arith) (omega arith) in
        let same : holds (put x s) ≡ holds s = holds_same n (put x s) s b a (nth_set_other s x.block 0 x.content (omega arith)) in
        elim h [ inl z ↦ absurd (both_ways (holds s) free z) | inr z ↦ absurd (both_ways (holds s) free (sym same ∙ z)) ]

pub log_same : LogSame
unfolding LogSame
log_same l w size lived =
    shape_pairs _ _ _ SameLog (λ s p h j low high. refl) (λ s x p q g. put_same_log l.pages s x p.sound q.sound g) w.disks w.todo (any_moment l size w lived)

-- which write of the log a put is
entry_number : (b : List Page) (m : Put) (i n : ℕ) → In m (entries_from b i n) → (k : ℕ) × (k < n) × (m ≡ entry b (i + k))
unfolding entries_from
entry_number b m i zero x = elim x [ ]
entry_number b m i (suc n) (inl e) = (0, omega arith, e ∙ ap (entry b) (sym (add-zero i)))
entry_number b m i (suc n) (inr x) =
    let (k, h, e) = entry_number b m (suc i) n x in
    let q : suc i + k ≡ i + suc k = omega arith in
    (suc k, omega arith, e ∙ ap (entry b) q)

pub reads_late : ReadsLate
unfolding ReadsLate
reads_late l w x xs size lived t high =
    let (s, p, g, q, each) = next put _ _ _ w.disks x xs w.todo (any_moment l size w lived) t in
    let n : ℕ = l.pages in
    let m : Put = x.item in
    let (h, i) = g.to_page high in
    let (k, few, e) = entry_number s m 0 (count s) i in
    let e' : m ≡ entry s k = e ∙ ap (entry s) (zero-add k) in
    let low = high_low m s (entry_high n s m p.sound i) in
    let c : count (put m s) ≡ count s = count_same n (put m s) s q.sound p.sound (low 0 (omega arith)) in
    let b : k < room = omega (arith, count_few n s p.sound) in
    let f : entry (put m s) k ≡ entry s k = entry_low s (put m s) k (low 1 (omega arith)) (low (2 + k) (omega arith)) in (
      k,
      either_live s (put m s) (λ a. (holds a ≡ true) × (k < count a) × (m ≡ entry a k)) (h, few, e')
          (replayed_holds n s m p.sound i ∙ h, subst (λ (z : ℕ). k < z) (sym c) few, e' ∙ sym f) 0 w.disks each,
    )
  where
    entry_low : (s t : List Page) (k : ℕ) → nth t 1 ≡ nth s 1 → nth t (2 + k) ≡ nth s (2 + k) → entry t k ≡ entry s k
    entry_low s t k e f = rw (e, f)

-- what holds of each state that a shape allows holds of each living disk
shape_each : (G : List Page → Put → Type 0) (P Q : List Page → Type 0) (R : List Page → Type 0) → ((s : List Page) → P s → R s) →
    (d : List (Disk (List Page))) (todo : List (On Put)) → Shape put G P Q d todo → AllLive R d
shape_each G P Q R f d todo (agree s xs al has e safe) =
    let r = f s (safe_here put G P Q s xs safe) in
    either_live s s R r r 0 d (each_map (Has s) _ (λ i y h l. inl (h l)) 0 d has)
shape_each G P Q R f d todo (ahead s x xs j is al asc h e p g safe) =
    either_live s (put x s) R (f s p) (f (put x s) (safe_here put G P Q (put x s) xs safe)) 0 d
    (each_map (Ahead j is s (put x s)) _ (λ i y c l. elim (cases_lt i j) [ inl z ↦ inr ((c l).0 z) | inr z ↦ inl ((c l).1 z).0 ]) 0 d h)

pub headers_sane : HeadersSane
unfolding HeadersSane
headers_sane l w size lived =
    shape_each _ _ _ (λ s. sane (nth s 0) (nth s 1) (pages_of s) ≡ true) (λ s p. sound_sane l.pages s p.sound) w.disks w.todo (any_moment l size w lived)

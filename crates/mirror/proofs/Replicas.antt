-- The shapes that the replicas can be in while a plan is written, one item on each before the next: those
-- that live agree, or the first of them are one item ahead. Writing the next item and the death of a disk
-- lead from shape to shape, and at the plan's end all agree. What an item means is not known here.
--
-- The disks that an item is still to come to are an ascending list: so a disk that lacks it is never
-- followed by one that has it.
use Rattle.std.proofs.Common.{◌≡◌, ℕ, zero, suc, ◌<◌, ◌≤◌, true, false, cond, eqb, ◌⊎◌, List, [], ◌∷◌, ◌++◌, length, sym, refl, ap, ◌∙◌, subst, inl, inr, arith}
use Rattle.std.proofs.lemmas.Bool.{eq-eqb, ne_eqb, cases_eq, cases_lt, both_ways, cond-true, cond-false}
use Rattle.model.specs.Disks.{Disk, On, on, wrote_one, wrote, wrote_all, killed, alive}
use Rattle.model.proofs.Safely.{Safely, safe_here}
use Rattle.mirror.specs.Mirror.{numbers, on_each, mirrored}
use Rattle.mirror.proofs.Each.{Each, Has, each_map, each_wrote, length_wrote, alive_wrote, each_killed, length_killed}

-- a number is in a list; a list goes up, from j on
abbrev pub Among : ℕ → List ℕ → Type 0
Among i [] = ⊥
Among i (k ∷ is) = (i ≡ k) ⊎ Among i is

abbrev pub Ascending : ℕ → List ℕ → Type 0
Ascending j [] = Unit {0}
Ascending j (i ∷ is) = (j ≤ i) × Ascending (suc i) is

ascending_above : (j i : ℕ) (is : List ℕ) → Ascending j is → Among i is → j ≤ i
ascending_above j i [] a x = elim x [ ]
ascending_above j i (k ∷ is) a (inl e) = omega arith
ascending_above j i (k ∷ is) a (inr x) = let h = ascending_above (suc k) i is a.1 x in omega arith

pub ascending_less : (j k : ℕ) (is : List ℕ) → j ≤ k → Ascending k is → Ascending j is
ascending_less j k [] h a = tt
ascending_less j k (i ∷ is) h a = (omega arith, a.1)

numbers_ascending : (i k : ℕ) → Ascending i (numbers i k)
unfolding numbers
numbers_ascending i zero = tt
numbers_ascending i (suc k) = (omega arith, numbers_ascending (suc i) k)

among_numbers : {S : Type 0} (i : ℕ) (ds : List (Disk S)) → Each (λ j _. Among j (numbers i (length ds))) i ds
unfolding numbers
among_numbers i [] = tt
among_numbers i (d ∷ ds) = (inl refl, each_map (λ j _. Among j (numbers (suc i) (length ds))) _ (λ j _ h. inr h) (suc i) ds (among_numbers (suc i) ds))

-- the disks below j have t, those from j on have s and are among those that the item is still to come to
abbrev pub Ahead : {S : Type 0} → ℕ → List ℕ → S → S → ℕ → Disk S → Type 0
Ahead j is s t i d = d.lives ≡ true → (i < j → d.has ≡ t) × (j ≤ i → (d.has ≡ s) × Among i is)

pub data Shape {S I : Type 0} (step : I → S → S) (G : S → I → Type 0) (P Q : S → Type 0) (d : List (Disk S)) (todo : List (On I)) : Type 0 where
  -- all that live have s
  agree : (s : S) (xs : List I) → alive d ≡ true → Each (Has s) 0 d → todo ≡ mirrored (length d) xs → Safely step G P Q s xs → Shape step G P Q d todo
  -- the first of those that live have x more than s
  ahead : (s : S) (x : I) (xs : List I) (j : ℕ) (is : List ℕ) → alive d ≡ true → Ascending j is → Each (Ahead j is s (step x s)) 0 d → todo ≡ on_each is x ++ mirrored (length d) xs →
      P s → G s x → Safely step G P Q (step x s) xs → Shape step G P Q d todo

some_disk : {S : Type 0} (d : List (Disk S)) → alive d ≡ true → (k : ℕ) × (length d ≡ suc k)
unfolding alive
some_disk [] al = absurd (both_ways false refl al)
some_disk (y ∷ d) al = (length d, refl)

module _ {S I : Type 0} (step : I → S → S) (G : S → I → Type 0) (P Q : S → Type 0) where
  -- the item is to come to none any more
  all_have_it : (s : S) (x : I) (j : ℕ) (d : List (Disk S)) → Each (Ahead j [] s (step x s)) 0 d → Each (Has (step x s)) 0 d
  all_have_it s x j d h = each_map (Ahead j [] s (step x s)) (Has (step x s)) one 0 d h
    where
      one : (i : ℕ) (y : Disk S) → Ahead j [] s (step x s) i y → Has (step x s) i y
      one i y c h = elim (cases_lt i j) [ inl p ↦ (c h).0 p | inr p ↦ elim ((c h).1 p).1 [ ] ]

  -- the item comes to disk k, the next of them
  ahead_one : (s : S) (x : I) (j k : ℕ) (is : List ℕ) → j ≤ k → Ascending (suc k) is → (i : ℕ) (y : Disk S) → Ahead j (k ∷ is) s (step x s) i y →
      Ahead (suc k) is s (step x s) i (cond (eqb i k) (wrote_one step x y) y)
  ahead_one s x j k is jk asc i y c = go (cases_eq i k)
    where
      go : (i ≡ k) ⊎ (i ≡ k → ⊥) → Ahead (suc k) is s (step x s) i (cond (eqb i k) (wrote_one step x y) y)
      go (inl e) =
          subst (Ahead (suc k) is s (step x s) i) (sym (cond-true (eqb i k) (wrote_one step x y) y (eq-eqb i k e)))
          (λ h. ((λ _. cond-true _ _ _ h ∙ ap (step x) ((c h).1 (omega arith)).0), (λ p. absurd (omega arith))))
      go (inr e) =
          subst (Ahead (suc k) is s (step x s) i) (sym (cond-false (eqb i k) (wrote_one step x y) y (ne_eqb i k e)))
          (λ h. ((λ p. low h (cases_lt i j) p), (λ p. (((c h).1 (omega arith)).0, high h p ((c h).1 (omega arith)).1))))
        where
          low : y.lives ≡ true → (i < j) ⊎ (j ≤ i) → i < suc k → y.has ≡ step x s
          low h (inl q) p = (c h).0 q
          low h (inr q) p = elim ((c h).1 q).1 [ inl z ↦ absurd (e z) | inr z ↦ absurd (omega (arith, ascending_above (suc k) i is asc z)) ]

          high : y.lives ≡ true → suc k ≤ i → Among i (k ∷ is) → Among i is
          high h p (inl z) = absurd (e z)
          high h p (inr z) = z

  from_ahead : (s : S) (x : I) (xs : List I) (j k : ℕ) (is : List ℕ) (d : List (Disk S)) (w : On I) (ws : List (On I)) → alive d ≡ true → Ascending j (k ∷ is) →
      Each (Ahead j (k ∷ is) s (step x s)) 0 d → w ∷ ws ≡ on_each (k ∷ is) x ++ mirrored (length d) xs → P s → G s x → Safely step G P Q (step x s) xs →
      Shape step G P Q (wrote step w d) ws
  unfolding on_each
  from_ahead s x xs j k is d w ws al asc h e p g safe =
      let hw : w ≡ on k x = cc in
      let hws : ws ≡ on_each is x ++ mirrored (length d) xs = cc in
      rw hw
      (ahead s x xs (suc k) is (alive_wrote step (on k x) 0 d ∙ al) asc.1
      (each_wrote step (on k x) (Ahead j (k ∷ is) s (step x s)) (Ahead (suc k) is s (step x s)) (ahead_one s x j k is asc.0 asc.1) 0 d h)
      (hws ∙ ap (λ n. on_each is x ++ mirrored n xs) (sym (length_wrote step (on k x) 0 d))) p g safe)

  from_agree : (s : S) (xs : List I) (d : List (Disk S)) (w : On I) (ws : List (On I)) → alive d ≡ true → Each (Has s) 0 d → w ∷ ws ≡ mirrored (length d) xs →
      Safely step G P Q s xs → Shape step G P Q (wrote step w d) ws
  unfolding mirrored on_each numbers
  from_agree s [] d w ws al has e safe = let z : ◌≡◌ {A = ℕ} 0 1 = cc in absurd (omega arith)
  from_agree s (x ∷ xs) d w ws al has e safe =
      let n = some_disk d al in
      let up : numbers 0 (length d) ≡ 0 ∷ numbers 1 n.0 = ap (numbers 0) n.1 in
      let h : Each (Ahead 0 (numbers 0 (length d)) s (step x s)) 0 d = both 0 d has (among_numbers 0 d) in
      from_ahead s x xs 0 0 (numbers 1 n.0) d w ws al (omega arith, numbers_ascending 1 n.0) (subst (λ (is : List ℕ). Each (Ahead 0 is s (step x s)) 0 d) up h)
      (e ∙ ap (λ is. on_each is x ++ mirrored (length d) xs) up) safe.0 safe.1 safe.2
    where
      both : (i : ℕ) (ds : List (Disk S)) → Each (Has s) i ds → Each (λ j _. Among j (numbers 0 (length d))) i ds → Each (Ahead 0 (numbers 0 (length d)) s (step x s)) i ds
      both i [] h k = tt
      both i (y ∷ ds) h k = ((λ a. ((λ q. absurd (omega arith)), (λ _. (h.0 a, k.0)))), both (suc i) ds h.1 k.1)

  -- the next item is written
  pub stepped : (d : List (Disk S)) (w : On I) (ws todo : List (On I)) → Shape step G P Q d todo → todo ≡ w ∷ ws → Shape step G P Q (wrote step w d) ws
  unfolding on_each
  stepped d w ws todo (agree s xs al has e safe) t = from_agree s xs d w ws al has (sym t ∙ e) safe
  stepped d w ws todo (ahead s x xs j [] al asc h e p g safe) t = from_agree (step x s) xs d w ws al (all_have_it s x j d h) (sym t ∙ e) safe
  stepped d w ws todo (ahead s x xs j (k ∷ is) al asc h e p g safe) t = from_ahead s x xs j k is d w ws al asc h (sym t ∙ e) p g safe

  -- a disk dies
  pub died : (k : ℕ) (d : List (Disk S)) (todo : List (On I)) → Shape step G P Q d todo → alive (killed k d) ≡ true → Shape step G P Q (killed k d) todo
  died k d todo (agree s xs al has e safe) h =
      agree s xs h (each_killed k (Has s) (λ i y f z. absurd (both_ways false refl z)) 0 d has) (e ∙ ap (λ n. mirrored n xs) (sym (length_killed k 0 d))) safe
  died k d todo (ahead s x xs j is al asc a e p g safe) h =
      ahead s x xs j is h asc (each_killed k (Ahead j is s (step x s)) (λ i y f z. absurd (both_ways false refl z)) 0 d a) (e ∙ ap (λ n. on_each is x ++ mirrored n xs) (sym (length_killed k 0 d))) p g safe

  -- all is written
  ended : (s : S) (xs : List I) (d : List (Disk S)) → alive d ≡ true → [] ≡ mirrored (length d) xs → Safely step G P Q s xs → P s × Q s
  unfolding mirrored on_each numbers
  ended s [] d al e safe = safe
  ended s (x ∷ xs) d al e safe =
      let n = some_disk d al in
      let up : numbers 0 (length d) ≡ 0 ∷ numbers 1 n.0 = ap (numbers 0) n.1 in
      let h : [] ≡ on 0 x ∷ (on_each (numbers 1 n.0) x ++ mirrored (length d) xs) = e ∙ ap (λ is. on_each is x ++ mirrored (length d) xs) up in
      let z : ◌≡◌ {A = ℕ} 0 1 = cc in
      absurd (omega arith)

  pub at_end : (d : List (Disk S)) → Shape step G P Q d [] → (s : S) × (alive d ≡ true) × Each (Has s) 0 d × (P s × Q s)
  unfolding on_each
  at_end d (agree s xs al has e safe) = (s, al, has, ended s xs d al e safe)
  at_end d (ahead s x xs j [] al asc h e p g safe) = (step x s, al, all_have_it s x j d h, ended (step x s) xs d al e safe)
  at_end d (ahead s x xs j (k ∷ is) al asc h e p g safe) = let z : ◌≡◌ {A = ℕ} 0 1 = cc in absurd (omega arith)

  -- each that lives has s, or what the item that is written next makes of s
  abbrev pub Next : List (Disk S) → On I → Type 0
  Next d w = (s : S) × P s × G s w.item × P (step w.item s) × Each (λ i y. y.lives ≡ true → (y.has ≡ s) ⊎ (y.has ≡ step w.item s)) 0 d

  next_agree : (s : S) (xs : List I) (d : List (Disk S)) (w : On I) (ws : List (On I)) → alive d ≡ true → Each (Has s) 0 d → w ∷ ws ≡ mirrored (length d) xs → Safely step G P Q s xs → Next d w
  unfolding mirrored on_each numbers
  next_agree s [] d w ws al has e safe = let z : ◌≡◌ {A = ℕ} 0 1 = cc in absurd (omega arith)
  next_agree s (x ∷ xs) d w ws al has e safe =
      let n = some_disk d al in
      let up : numbers 0 (length d) ≡ 0 ∷ numbers 1 n.0 = ap (numbers 0) n.1 in
      let f : w ∷ ws ≡ on 0 x ∷ (on_each (numbers 1 n.0) x ++ mirrored (length d) xs) = e ∙ ap (λ is. on_each is x ++ mirrored (length d) xs) up in
      let hw : w ≡ on 0 x = cc in
      rw hw (s, safe.0, safe.1, safe_here step G P Q (step x s) xs safe.2, each_map (Has s) _ (λ i y h l. inl (h l)) 0 d has)

  pub next : (d : List (Disk S)) (w : On I) (ws todo : List (On I)) → Shape step G P Q d todo → todo ≡ w ∷ ws → Next d w
  unfolding on_each
  next d w ws todo (agree s xs al has e safe) t = next_agree s xs d w ws al has (sym t ∙ e) safe
  next d w ws todo (ahead s x xs j [] al asc h e p g safe) t = next_agree (step x s) xs d w ws al (all_have_it s x j d h) (sym t ∙ e) safe
  next d w ws todo (ahead s x xs j (k ∷ is) al asc h e p g safe) t =
      let f : w ∷ ws ≡ on k x ∷ (on_each is x ++ mirrored (length d) xs) = sym t ∙ e in
      let hw : w ≡ on k x = cc in
      rw hw (s, p, g, safe_here step G P Q (step x s) xs safe, each_map (Ahead j (k ∷ is) s (step x s)) _ (λ i y c l. elim (cases_lt i j) [ inl z ↦ inr ((c l).0 z) | inr z ↦ inl ((c l).1 z).0 ]) 0 d h)

  -- all of a plan is written
  pub written_out : (todo : List (On I)) (d : List (Disk S)) → Shape step G P Q d todo → Shape step G P Q (wrote_all step todo d) []
  unfolding wrote_all
  written_out [] d sh = sh
  written_out (x ∷ xs) d sh = written_out xs (wrote step x d) (stepped d x xs (x ∷ xs) sh refl)

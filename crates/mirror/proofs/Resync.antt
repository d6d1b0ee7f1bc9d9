-- Power went, at any moment of a plan: making the replicas the same again, and then the plan of the
-- recovery, is again a plan in one of the shapes. The disks differ in one block at most, the one that was
-- under way, so that the highest block that differs is all that is to be copied; and the first disk that
-- lives has it, or none that lives has.
use Rattle.std.proofs.Common.{◌≡◌, ℕ, zero, suc, ◌+◌, ◌≤◌, Bool, true, false, cond, ◌⊎◌, List, [], ◌∷◌, ◌++◌, length, refl, ap, ◌∙◌, inl, inr, add-zero, add-suc, suc-add, zero-add, arith}
use Rattle.std.proofs.lemmas.Bool.{cases_lt, both_ways, or_cases}
use Rattle.model.specs.Book.{Page, set_page}
use Rattle.model.specs.Disks.{On, on, alive, View, seen}
use Rattle.model.specs.Promise.{same_page}
use Rattle.model.specs.Plain.{Put, put}
use Rattle.model.proofs.Lists.{same_page_refl, same_page_eq}
use Rattle.model.proofs.Safely.{Safely, safe_here}
use Rattle.mirror.specs.Mirror.{on_each, mirrored, or_else, highest, source, all_on, resync}
use Rattle.mirror.proofs.Each.{Each, Has, each_map, length_seen, source_is}
use Rattle.mirror.proofs.Replicas.{Ascending, ascending_less, Ahead, Shape, agree, ahead}

pub highest_same : (i : ℕ) (b : List Page) → highest i b b ≡ []
unfolding highest or_else
highest_same i [] = refl
highest_same i (x ∷ b) = rw (highest_same (suc i) b, same_page_refl x)

-- one block was put on the first disk and not on the second: it is the highest that differs, or none does
abbrev Found : ℕ → List Page → ℕ → Page → Type 0
Found i b j x = ((highest i (set_page b j x) b ≡ []) × (set_page b j x ≡ b)) ⊎ (highest i (set_page b j x) b ≡ record { block = i + j; content = x } ∷ [])

found_here : (i : ℕ) (y : Page) (b : List Page) (x : Page) (t : Bool) → same_page x y ≡ t → Found i (y ∷ b) 0 x
unfolding highest or_else set_page
found_here i y b x true e = inl (rw (highest_same (suc i) b, e), ap (λ z. z ∷ b) (same_page_eq x y e))
found_here i y b x false e = inr (rw (highest_same (suc i) b, e, add-zero))

found_on : (i : ℕ) (y : Page) (b : List Page) (j : ℕ) (x : Page) → Found (suc i) b j x → Found i (y ∷ b) (suc j) x
unfolding highest or_else set_page
found_on i y b j x (inl (e, h)) = inl (rw (e, same_page_refl y), ap (λ z. y ∷ z) h)
found_on i y b j x (inr e) = inr (rw (e, suc-add, add-suc))

highest_set : (i : ℕ) (b : List Page) (j : ℕ) (x : Page) → Found i b j x
unfolding highest or_else set_page
highest_set i [] j x = inl (refl, refl)
highest_set i (y ∷ b) zero x = found_here i y b x (same_page x y) refl
highest_set i (y ∷ b) (suc j) x = found_on i y b j x (highest_set (suc i) b j x)

abbrev pub id : List Page → List Page
id b = b

-- what is copied to one disk
resync_living : (t : Bool) (i : ℕ) (b x : List Page) (r : List (On Put)) → t ≡ true → cond t (all_on i (highest 0 b (cond t x []))) [] ++ r ≡ all_on i (highest 0 b x) ++ r
resync_living t i b x r e = rw e

resync_dead : (t : Bool) (i : ℕ) (b x : List Page) (r : List (On Put)) → t ≡ false → cond t (all_on i (highest 0 b (cond t x []))) [] ++ r ≡ r
resync_dead t i b x r e = rw e

-- replicas that agree get nothing
pub resync_none : (b : List Page) (i : ℕ) (d : View) → Each (Has b) i d → resync i b (seen id d) ≡ []
unfolding seen resync all_on
resync_none b i [] h = refl
resync_none b i (y ∷ d) h = go y.lives refl (resync_none b (suc i) d h.1)
  where
    go : (t : Bool) → y.lives ≡ t → resync (suc i) b (seen id d) ≡ [] → resync i b (seen id (y ∷ d)) ≡ []
    go true e r = resync_living y.lives i b y.has (resync (suc i) b (seen id d)) e ∙ rw (h.0 e, highest_same 0 b) r
    go false e r = resync_dead y.lives i b y.has (resync (suc i) b (seen id d)) e ∙ r

module _ (b : List Page) (m : Put) (j : ℕ) (is : List ℕ) where
  abbrev t : List Page
  t = put m b

  all_later : (i : ℕ) (d : View) → j ≤ i → Each (Ahead j is b t) i d → Each (Has b) i d
  all_later i [] h c = tt
  all_later i (y ∷ d) h c = ((λ l. ((c.0 l).1 h).0), all_later (suc i) d (omega arith) c.1)

  source_ahead : (i : ℕ) (d : View) → alive d ≡ true → Each (Ahead j is b t) i d → (source (seen id d) ≡ t) ⊎ Each (Has b) i d
  unfolding alive seen source
  source_ahead i [] al c = absurd (both_ways false refl al)
  source_ahead i (y ∷ d) al c = go y.lives refl (λ z. source_ahead (suc i) d z c.1)
    where
      go : (u : Bool) → y.lives ≡ u → (alive d ≡ true → (source (seen id d) ≡ t) ⊎ Each (Has b) (suc i) d) → (source (seen id (y ∷ d)) ≡ t) ⊎ Each (Has b) i (y ∷ d)
      go true e r = elim (cases_lt i j) [ inl p ↦ inl (rw e ((c.0 e).0 p)) | inr p ↦ inr ((λ l. ((c.0 l).1 p).0), all_later (suc i) d (omega arith) c.1) ]
      go false e r =
          elim (r (elim (or_cases _ _ al) [ inl z ↦ absurd (both_ways y.lives e z) | inr z ↦ z ]))
          [ inl z ↦ inl (rw e z) | inr z ↦ inr ((λ l. absurd (both_ways y.lives e l)), z) ]

  -- the copies are that one put, on an ascending list of the disks that lack it
  abbrev Copied : ℕ → View → Type 0
  Copied i d = (ks : List ℕ) × (resync i t (seen id d) ≡ on_each ks m) × (i ≤ j → Ascending j ks) × (j ≤ i → Ascending i ks) × Each (Ahead j ks b t) i d

  module _ (one : highest 0 t b ≡ m ∷ []) where
    copied : (i : ℕ) (d : View) → Each (Ahead j is b t) i d → Copied i d
    unfolding seen resync on_each all_on
    copied i [] c = ([], refl, (λ _. tt), (λ _. tt), tt)
    copied i (y ∷ d) c = go y.lives refl (copied (suc i) d c.1)
      where
        low : (ks : List ℕ) → (suc i ≤ j → Ascending j ks) → (j ≤ suc i → Ascending (suc i) ks) → i ≤ j → Ascending j ks
        low ks f g h = elim (cases_lt i j) [ inl p ↦ f p | inr p ↦ ascending_less j (suc i) ks (omega arith) (g (omega arith)) ]

        go : (u : Bool) → y.lives ≡ u → Copied (suc i) d → Copied i (y ∷ d)
        go false e (ks, q, f, g, cs) = (
          ks,
          resync_dead y.lives i t y.has (resync (suc i) t (seen id d)) e ∙ q,
          low ks f g,
          (λ h. ascending_less i (suc i) ks (omega arith) (g (omega arith))),
          ((λ l. absurd (both_ways y.lives e l)), cs),
        )
        go true e (ks, q, f, g, cs) =
            elim (cases_lt i j) [
              | inl p ↦ (
                ks,
                resync_living y.lives i t y.has (resync (suc i) t (seen id d)) e ∙ rw ((c.0 e).0 p, highest_same 0 t) q,
                low ks f g,
                (λ h. absurd (omega arith)),
                ((λ l. ((λ _. (c.0 e).0 p), (λ h. absurd (omega arith)))), cs),
              )
              | inr p ↦ (
                i ∷ ks,
                resync_living y.lives i t y.has (resync (suc i) t (seen id d)) e ∙ rw (((c.0 e).1 p).0, one) (ap (λ z. on i m ∷ z) q),
                (λ h. (p, g (omega arith))),
                (λ h. (omega arith, g (omega arith))),
                (
                  (λ l. ((λ h. absurd (omega arith)), (λ _. (((c.0 e).1 p).0, inl refl)))),
                  each_map (Ahead j ks b t) (Ahead j (i ∷ ks) b t) (λ n z w l. ((λ h. (w l).0 h), (λ h. (((w l).1 h).0, inr ((w l).1 h).1)))) (suc i) d cs,
                ),
              )
            ]

-- a recovery of one disk that is safe from every state that P allows, taken to the replicas
module _ (recovery : List Page → List Put) (G : List Page → Put → Type 0) (P Q R : List Page → Type 0) (recovers : (b : List Page) → P b → Safely put G P R b (recovery b)) (d : View) where
  abbrev pub resynced : List (On Put)
  resynced = resync 0 (source (seen id d)) (seen id d) ++ mirrored (length (seen id d)) (recovery (source (seen id d)))

  recovery_agreed : (b : List Page) → P b → alive d ≡ true → Each (Has b) 0 d → Shape put G P R d resynced
  recovery_agreed b p al h = agree b (recovery b) al h (rw (source_is id b 0 d al h, resync_none b 0 d h, length_seen id d)) (recovers b p)

  recovery_ahead : (b : List Page) (m : Put) (j : ℕ) (is : List ℕ) → P b → P (put m b) → G b m → alive d ≡ true → Each (Ahead j is b (put m b)) 0 d → source (seen id d) ≡ put m b →
      Found 0 b m.block m.content → Shape put G P R d resynced
  recovery_ahead b m j is p q g al c e (inl (h, k)) =
      recovery_agreed b p al (each_map (Ahead j is b (put m b)) (Has b) (λ i y w l. elim (cases_lt i j) [ inl z ↦ (w l).0 z ∙ k | inr z ↦ ((w l).1 z).0 ]) 0 d c)
  recovery_ahead b m j is p q g al c e (inr h) =
      let x = copied b m j is (rw zero-add at h) 0 d c in
      ahead b m (recovery (put m b)) j x.0 al (x.2 (omega arith)) x.4 (rw (e, x.1, length_seen id d)) p g (recovers (put m b) q)

  pub recovery_shape : (todo : List (On Put)) → Shape put G P Q d todo → Shape put G P R d resynced
  recovery_shape todo (agree b xs al has e safe) = recovery_agreed b (safe_here put G P Q b xs safe) al has
  recovery_shape todo (ahead b m xs j is al asc c e p g safe) =
      elim (source_ahead b m j is 0 d al c)
      [ inl z ↦ recovery_ahead b m j is p (safe_here put G P Q (put m b) xs safe) g al c z (highest_set 0 b m.block m.content) | inr z ↦ recovery_agreed b p al z ]

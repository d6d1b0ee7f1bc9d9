-- Calls of one disk as steps of two: a write that was done, and a disk that was found dead.
use Rattle.std.proofs.Common.{◌≡◌, ℕ, Bool, true, false, ◌||◌, List, [], ◌∷◌, ◌++◌, Some, None, Option, Result, Ok, Err, IsErr, is_ok, sym, refl, ap, ◌∙◌, inl, inr, arith}
use Rattle.std.proofs.lemmas.Bool.{both_ways}
use Rattle.model.specs.Book.{set_page}
use Rattle.model.specs.Disks.{On, on, View, wrote_from, killed_from}
use Rattle.model.specs.Plain.{Put}
use Rattle.device.specs.declared.Dead.{Dead}
use Rattle.device.specs.declared.mirror.Mirror.{Mirror}
use Rattle.device.specs.declared.mirror.Side.{Side}
use Rattle.device.specs.declared.mirror.Side.TheVariants.{First, Second}
use Rattle.device.specs.Known.{Known, living, dead, Written, Shown, Lives}
use Rattle.device.specs.Ran.{Ran, stays, writes, dies, Both, together, Did, Fetched, FetchedBoth, TellsLife, TellsOne, side_number}
use Rattle.device.specs.Sides.{disk_at, with_disk}

-- one run after the other
pub ran_more : {xs ys : List (On Put)} {d e f : View} → Ran xs d e → Ran ys e f → Ran (xs ++ ys) d f
ran_more stays q = q
ran_more (writes w p) q = writes w (ran_more p q)
ran_more (dies k p) q = dies k (ran_more p q)

pub stays_at : {d e : View} → d ≡ e → Ran [] d e
stays_at p = rw p stays

abbrev pub both : Known → Known → Both
both a b = record { first = a; second = b }

two_are : (a b c : Known) → a ≡ c → ◌≡◌ {A = View} (a ∷ (b ∷ [])) (c ∷ (b ∷ []))
two_are a b c e = rw e

second_is : (a b c : Known) → b ≡ c → ◌≡◌ {A = View} (a ∷ (b ∷ [])) (a ∷ (c ∷ []))
second_is a b c e = rw e

living_is : (a : Known) → a.lives ≡ true → a ≡ living a.has
living_is a l = λ i. record { has = a.has; lives = l i }

-- a write on the first, and one on the second
pub first_written : (a b : Known) (k : Option Known) (m : Put) (r : Bool) → Written (Some a) k m.block m.content r →
    (c : Known) × (k ≡ Some c) × Ran (on 0 m ∷ []) (a ∷ (b ∷ [])) (c ∷ (b ∷ []))
unfolding wrote_from killed_from
first_written a b k m true (l, e) = (living (set_page a.has m.block m.content), e, writes (on 0 m) (stays_at (rw l)))
first_written a b k m false e = (dead a.has, e, dies 0 (writes (on 0 m) stays))

pub second_written : (a b : Known) (k : Option Known) (m : Put) (r : Bool) → Written (Some b) k m.block m.content r →
    (c : Known) × (k ≡ Some c) × Ran (on 1 m ∷ []) (a ∷ (b ∷ [])) (a ∷ (c ∷ []))
unfolding wrote_from killed_from
second_written a b k m true (l, e) = (living (set_page b.has m.block m.content), e, writes (on 1 m) (stays_at (rw l)))
second_written a b k m false e = (dead b.has, e, dies 1 (writes (on 1 m) stays))

first_dead : (a b : Known) → Ran [] (a ∷ (b ∷ [])) (dead a.has ∷ (b ∷ []))
unfolding killed_from
first_dead a b = dies 0 stays

second_dead : (a b : Known) → Ran [] (a ∷ (b ∷ [])) (a ∷ (dead b.has ∷ []))
unfolding killed_from
second_dead a b = dies 1 stays

pub together_known : (j k : Option Known) (d : Both) → together j k ≡ Some d → (j ≡ Some d.first) × (k ≡ Some d.second)
unfolding together
together_known None k d e = let z : ◌≡◌ {A = ℕ} 0 1 = cc in absurd (omega arith)
together_known (Some a) None d e = let z : ◌≡◌ {A = ℕ} 0 1 = cc in absurd (omega arith)
together_known (Some a) (Some b) d e =
    let h : both a b ≡ d = cc in
    (ap (λ (x : Both). Some x.first) h, ap (λ (x : Both). Some x.second) h)

pub together_is : (j k : Option Known) (a b : Known) → j ≡ Some a → k ≡ Some b → together j k ≡ Some (both a b)
unfolding together
together_is j k a b e f = rw (e, f)

-- what a write answers is whether its disk lives afterwards
written_tells : (a c : Known) (k : Option Known) (m : Put) (r : Bool) → Written (Some a) k m.block m.content r → k ≡ Some c → r ≡ c.lives
written_tells a c k m true (l, e) f =
    let h : living (set_page a.has m.block m.content) ≡ c = cc in
    ap (λ (x : Known). x.lives) h
written_tells a c k m false e f =
    let h : dead a.has ≡ c = cc in
    ap (λ (x : Known). x.lives) h

-- a write on the disk of a side
module _ {X : Type 0} (known : X → Option Known) (s : Mirror X) where
  abbrev held : Mirror X → Option Both
  held t = together (known t.first) (known t.second)

  pub side_did : (side : Side) (x : X) (m : Put) (r : Bool) → Written (known (disk_at side s)) (known x) m.block m.content r → Did (held s) (held (with_disk side s x)) (on (side_number side) m ∷ [])
  side_did First x m r w d e =
      let h = together_known _ _ d e in
      let f = first_written d.first d.second (known x) m r (rw h.0 at w) in
      (both f.0 d.second, together_is _ _ f.0 d.second f.1 h.1, f.2)
  side_did Second x m r w d e =
      let h = together_known _ _ d e in
      let f = second_written d.first d.second (known x) m r (rw h.1 at w) in
      (both d.first f.0, together_is _ _ d.first f.0 h.0 f.1, f.2)

  pub side_told : (side : Side) (x : X) (m : Put) (r : Bool) → Written (known (disk_at side s)) (known x) m.block m.content r → TellsOne (held s) (held (with_disk side s x)) side r
  side_told First x m r w d e d' e' =
      written_tells d.first d'.first (known x) m r (rw (together_known _ _ d e).0 at w) (together_known _ _ d' e').0
  side_told Second x m r w d e d' e' =
      written_tells d.second d'.second (known x) m r (rw (together_known _ _ d e).1 at w) (together_known _ _ d' e').1

module _ (j k : Option Known) where
  -- read off the first
  pub first_fetched : (j' : Option Known) (from : ℕ) (p : List ℕ) → Shown j j' from p true → Fetched (together j k) (together j' k) from p true
  first_fetched j' from p w d e =
      let h = together_known j k d e in
      let f = rw h.0 at w in (
        both (living d.first.has) d.second,
        together_is j' k _ d.second f.1 h.1,
        stays_at (two_are _ d.second _ (living_is d.first f.0)),
        refl,
        λ _. (d.first.has, inl (f.0, refl), f.2),
      )

  -- the first is dead, and the second is read, or dead too
  pub second_fetched : (j' k' : Option Known) (from : ℕ) (p q : List ℕ) (s : Bool) → Shown j j' from p false → Shown k k' from q s → Fetched (together j k) (together j' k') from q s
  second_fetched j' k' from p q true w v d e =
      let h = together_known j k d e in
      let f = rw h.0 at w in
      let g = rw h.1 at v in (
        both (dead d.first.has) (living d.second.has),
        together_is j' k' _ _ f g.1,
        ran_more (first_dead d.first d.second) (stays_at (second_is (dead d.first.has) _ _ (living_is d.second g.0))),
        refl,
        λ _. (d.second.has, inr (g.0, refl), g.2),
      )
  second_fetched j' k' from p q false w v d e =
      let h = together_known j k d e in (
        both (dead d.first.has) (dead d.second.has),
        together_is j' k' _ _ (rw h.0 at w) (rw h.1 at v),
        ran_more (first_dead d.first d.second) (second_dead (dead d.first.has) d.second),
        refl,
        λ t. absurd (both_ways false refl t),
      )

  -- read off both
  pub none_fetched : (j' : Option Known) (from : ℕ) (p q : List ℕ) (r : Result (Unit {0}) Dead) → IsErr r → Shown j j' from p false → FetchedBoth (together j k) (together j' k) from p q (is_ok r)
  none_fetched j' from p q (Ok x) l w d e = absurd (both_ways false refl l)
  none_fetched j' from p q (Err x) l w d e =
      let h = together_known j k d e in (
        both (dead d.first.has) d.second,
        together_is j' k _ d.second (rw h.0 at w) h.1,
        first_dead d.first d.second,
        refl,
        λ t. absurd (both_ways false refl t),
      )

  pub both_fetched : (j' k' : Option Known) (from : ℕ) (p q : List ℕ) (s : Bool) → Shown j j' from p true → Shown k k' from q s → FetchedBoth (together j k) (together j' k') from p q s
  both_fetched j' k' from p q true w v d e =
      let h = together_known j k d e in
      let f = rw h.0 at w in
      let g = rw h.1 at v in (
        d,
        together_is j' k' d.first d.second (f.1 ∙ ap Some (sym (living_is d.first f.0))) (g.1 ∙ ap Some (sym (living_is d.second g.0))),
        stays,
        rw (f.0, g.0),
        λ _. (refl, f.2, g.2),
      )
  both_fetched j' k' from p q false w v d e =
      let h = together_known j k d e in
      let f = rw h.0 at w in (
        both d.first (dead d.second.has),
        together_is j' k' d.first _ (f.1 ∙ ap Some (sym (living_is d.first f.0))) (rw h.1 at v),
        second_dead d.first d.second,
        rw f.0,
        λ t. absurd (both_ways false refl t),
      )

  pub life_told : (r s : Bool) → Lives j r → Lives k s → TellsLife (together j k) (r || s)
  life_told r s w v d e =
      let h = together_known j k d e in
      let f = rw h.0 at w in
      let g = rw h.1 at v in
      rw (f, g)

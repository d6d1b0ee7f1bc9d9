-- The highest block in which two disks differ, found piece by piece from the lowest up, is the one that the
-- model copies.
use Rattle.std.proofs.Common.{◌≡◌, ℕ, zero, suc, ◌+◌, ◌-◌, ◌*◌, ◌<◌, ◌≤◌, Bool, true, false, List, [], ◌∷◌, length, take, Some, None, Option, Ok, Err, sym, refl, ap, ◌∙◌, subst, inl, inr, add-zero, arith, length-take}
use Rattle.std.specs.Option.{option_map, option_or}
use Rattle.std.proofs.lemmas.Bool.{both_ways, cases_lt}
use Rattle.model.specs.Book.{Page, nth}
use Rattle.model.specs.Promise.{same_page}
use Rattle.model.proofs.Lists.{same_page_refl, same_page_eq}
use Rattle.mirror.specs.Mirror.{or_else, highest}
use Rattle.device.specs.Blocks.{block_of, Shows}
use Rattle.device.specs.Ran.{stays, Both, both_live, FetchedBoth}
use Rattle.device.specs.declared.Dead.{Dead}
use Rattle.engine.specs.Doing.{Copies}
use Rattle.engine.specs.Recovering.{SameBetween, Highest, blocks_in, PieceRead, ReadThrough, copy_put, Scanned}

-- what two pieces show of two disks
module _ (p q : List ℕ) (xs ys : List Page) (from n : ℕ) (is : blocks_in p q ≡ n) (shows : Shows p xs from) (shows' : Shows q ys from) where
  shown_same : (i : ℕ) → SameBetween (block_of p) (block_of q) i (blocks_in p q) → SameBetween (nth xs) (nth ys) (from + i) (from + n)
  shown_same i same k h b =
      let e : k ≡ from + (k - from) = omega arith in
      rw e (sym (shows (k - from) (omega arith)) ∙ same (k - from) (omega arith) (omega arith) ∙ shows' (k - from) (omega arith))

  piece_highest : (r : Option ℕ) → Highest (block_of p) (block_of q) 0 (blocks_in p q) r → Highest (nth xs) (nth ys) from (from + n) (option_map (λ i. from + i) r)
  piece_highest None same = λ k h b. shown_same 0 same k (omega arith) b
  piece_highest (Some i) (a, b, differ, same) = (
    omega arith,
    omega arith,
    (λ e. differ (shows i (omega arith) ∙ e ∙ sym (shows' i (omega arith)))),
    (λ k h c. shown_same (suc i) same k (omega arith) c),
  )

-- a piece that is the same on both, and one that differs
pub piece_same : (s t : Option Both) (from n : ℕ) (p q : List ℕ) (r : Bool) (was : Page) → blocks_in p q ≡ n → FetchedBoth s t from p q r → r ≡ true →
    Highest (block_of p) (block_of q) 0 (blocks_in p q) None → PieceRead s t from n (Ok None) was was
piece_same s t from n p q r was is fetch good none d e =
    let f = fetch d e in
    let g = f.4 good in
    (f.0, f.1, f.2, (sym f.3 ∙ good, g.0, refl, piece_highest p q d.first.has d.second.has from n is g.1 g.2 None none))

pub piece_differs : (s t : Option Both) (from n i : ℕ) (p q : List ℕ) (r : Bool) (was kept : Page) → blocks_in p q ≡ n → FetchedBoth s t from p q r → r ≡ true →
    Highest (block_of p) (block_of q) 0 (blocks_in p q) (Some i) → kept ≡ block_of p i → PieceRead s t from n (Ok (Some (from + i))) was kept
piece_differs s t from n i p q r was kept is fetch good some same d e =
    let f = fetch d e in
    let g = f.4 good in
    let inside : i < blocks_in p q = some.1 in (
      f.0,
      f.1,
      f.2,
      (sym f.3 ∙ good, g.0, same ∙ g.1 i (omega arith), piece_highest p q d.first.has d.second.has from n is g.1 g.2 (Some i) some),
    )

-- more blocks read: none of the new ones differs, or the highest of them is the highest of all
highest_on : (f g : ℕ → Page) (m j : ℕ) (r : Option ℕ) → Highest f g 0 m r → m ≤ j → SameBetween f g m j → Highest f g 0 j r
highest_on f g m j None all l same = λ k h b. elim (cases_lt k m) [ inl z ↦ all k h z | inr z ↦ same k z b ]
highest_on f g m j (Some i) (a, b, differ, all) l same = (a, omega arith, differ, λ k h c. elim (cases_lt k m) [ inl z ↦ all k h z | inr z ↦ same k z c ])

pub through_none : (s : Option Both) (n : ℕ) (kept : Page) → n ≡ 0 → ReadThrough s s n None kept
through_none s n kept z d e = (e, (λ _. refl), (λ k h b. absurd (omega arith)), tt)

through_same : (s t u : Option Both) (m from n j : ℕ) (r r' : Option ℕ) (was kept : Page) → m ≡ from → from + n ≡ j → r' ≡ r → ReadThrough s t m r was →
    PieceRead t u from n (Ok None) was kept → ReadThrough s u j r' kept
through_same s t u m from n j r r' was kept e f z read piece d is =
    let h = read d is in
    let g = piece d h.0 in
    let p = g.3 in
    let C : Page → Type 0 = λ x. Copies r x d.first.has in
    let R : Option ℕ → Type 0 = λ x. (both_live d ≡ false → x ≡ None) × Highest (nth d.first.has) (nth d.second.has) 0 j x × Copies x kept d.first.has in
    let H : ℕ → Type 0 = λ x. Highest (nth d.first.has) (nth d.second.has) 0 x r in
    let k = subst R (sym z) (h.1, subst H f (highest_on _ _ from (from + n) r (subst H e h.2) (omega arith) p.3), subst C (sym p.2) h.3) in
    (g.1 ∙ ap (λ (x : Both). Some x) p.1, k.0, k.1, k.2)

through_differs : (s t u : Option Both) (m from n j k : ℕ) (r r' : Option ℕ) (was kept : Page) → from + n ≡ j → r' ≡ Some k → ReadThrough s t m r was →
    PieceRead t u from n (Ok (Some k)) was kept → ReadThrough s u j r' kept
through_differs s t u m from n j k r r' was kept f z read piece d is =
    let h = read d is in
    let g = piece d h.0 in
    let p = g.3 in
    let i = p.3 in
    let live : both_live d ≡ true = ap both_live (sym p.1) ∙ p.0 in
    let R : Option ℕ → Type 0 = λ x. Highest (nth d.first.has) (nth d.second.has) 0 j x × Copies x kept d.first.has in
    let H : ℕ → Type 0 = λ x. Highest (nth d.first.has) (nth d.second.has) 0 x (Some k) in
    let v = subst R (sym z) (subst H f (omega arith, i.1, i.2, i.3), p.2) in
    (g.1 ∙ ap (λ (x : Both). Some x) p.1, (λ q. absurd (both_ways (both_live d) q live)), v.0, v.1)

pub through_piece : (s t u : Option Both) (m from n j : ℕ) (r r' found : Option ℕ) (was kept : Page) → m ≡ from → from + n ≡ j → r' ≡ option_or found r → ReadThrough s t m r was →
    PieceRead t u from n (Ok found) was kept → ReadThrough s u j r' kept
through_piece s t u m from n j r r' None was kept e f z read piece = through_same s t u m from n j r r' was kept e f z read piece
through_piece s t u m from n j r r' (Some k) was kept e f z read piece = through_differs s t u m from n j k r r' was kept f z read piece

-- m blocks at the front of the room for a piece
pub blocks_front : (m : ℕ) (p q : List ℕ) → length p ≡ 262144 → length q ≡ 262144 → m ≤ 256 → blocks_in (take (1024 * m - 0) p) (take (1024 * m - 0) q) ≡ m
blocks_front m p q l k b = simp length-take (omega arith)

-- the highest block by its number is the model's
highest_none : (i : ℕ) (xs ys : List Page) → length xs ≡ length ys → SameBetween (nth xs) (nth ys) 0 (length xs) → highest i xs ys ≡ []
unfolding highest or_else nth
highest_none i [] ys l same = refl
highest_none i (x ∷ xs) [] l same = absurd (omega arith)
highest_none i (x ∷ xs) (y ∷ ys) l same =
    let e : x ≡ y = same 0 (omega arith) (omega arith) in
    let r : highest (suc i) xs ys ≡ [] = highest_none (suc i) xs ys (omega arith) (λ k h b. same (suc k) (omega arith) (omega arith)) in
    let s : same_page x y ≡ true = ap (same_page x) (sym e) ∙ same_page_refl x in
    rw (r, s)

not_same : (x y : Page) → (x ≡ y → ⊥) → same_page x y ≡ false
not_same x y n = go (same_page x y) refl
  where
    go : (t : Bool) → same_page x y ≡ t → t ≡ false
    go true e = absurd (n (same_page_eq x y e))
    go false e = refl

highest_some : (i k : ℕ) (xs ys : List Page) → length xs ≡ length ys → k < length xs → (nth xs k ≡ nth ys k → ⊥) → SameBetween (nth xs) (nth ys) (suc k) (length xs) →
    highest i xs ys ≡ record { block = i + k; content = nth xs k } ∷ []
unfolding highest or_else nth
highest_some i k [] ys l b differ same = absurd (omega arith)
highest_some i k (x ∷ xs) [] l b differ same = absurd (omega arith)
highest_some i zero (x ∷ xs) (y ∷ ys) l b differ same =
    let r : highest (suc i) xs ys ≡ [] = highest_none (suc i) xs ys (omega arith) (λ k h c. same (suc k) (omega arith) (omega arith)) in
    rw (r, not_same x y differ, add-zero)
highest_some i (suc k) (x ∷ xs) (y ∷ ys) l b differ same =
    let r = highest_some (suc i) k xs ys (omega arith) (omega arith) differ (λ j h c. same (suc j) (omega arith) (omega arith)) in
    let e : i + suc k ≡ suc i + k = omega arith in
    rw (r, e)

pub highest_is : (xs ys : List Page) (n : ℕ) (r : Option ℕ) (kept : Page) → length xs ≡ n → length ys ≡ n → Highest (nth xs) (nth ys) 0 n r → Copies r kept xs → copy_put r kept ≡ highest 0 xs ys
highest_is xs ys n None kept l m same c = sym (highest_none 0 xs ys (omega arith) (λ k h b. same k h (omega arith)))
highest_is xs ys n (Some k) kept l m (a, b, differ, same) c =
    let e : 0 + k ≡ k = omega arith in
    let z = highest_some 0 k xs ys (omega arith) (omega arith) differ (λ j h d. same j h (omega arith)) in
    rw c (sym (rw e at z))

-- all read, or one found dead on the way
pub scanned_all : (s t : Option Both) (pages n : ℕ) (r : Option ℕ) (kept : Page) → n ≡ pages + 258 → ReadThrough s t n r kept → Scanned s t pages r kept
scanned_all s t pages n r kept e read d is long =
    let h = read d is in
    (d, h.0, stays, (λ live. (refl, highest_is d.first.has d.second.has n r kept (long.0 ∙ sym e) (long.1 ∙ sym e) h.2 h.3, h.3)), h.1)

pub scanned_dead : (s t u : Option Both) (pages m from n : ℕ) (r : Option ℕ) (x : Dead) (was kept : Page) → ReadThrough s t m r was → PieceRead t u from n (Err x) was kept → Scanned s u pages None kept
scanned_dead s t u pages m from n r x was kept read piece d is long =
    let h = read d is in
    let g = piece d h.0 in
    (g.0, g.1, g.2, (λ live. absurd (both_ways (both_live g.0) g.3 live)), λ _. refl)

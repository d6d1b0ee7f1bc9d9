-- What the replicas' plans consist of: which disks their writes go to, which items they carry, and how many
-- writes there are. Making the replicas the same copies one block at most to each disk but the source.
use Rattle.std.proofs.Common.{◌≡◌, ℕ, zero, suc, ◌+◌, ◌-◌, ◌*◌, ◌<◌, ◌≤◌, Bool, true, false, cond, List, [], ◌∷◌, ◌++◌, length, sym, refl, ap, subst, mul-zero, mul-suc, arith, length-append}
use Rattle.model.specs.Book.{Page}
use Rattle.model.specs.Disks.{Disk, On, View}
use Rattle.model.specs.Plain.{Put}
use Rattle.model.specs.Promise.{same_page}
use Rattle.model.proofs.Safely.{Safely}
use Rattle.mirror.specs.Mirror.{numbers, on_each, mirrored, or_else, highest, source, all_on, resync}
use Rattle.mirror.proofs.Replicas.{Shape, agree, ahead}
use Rattle.mirror.proofs.Resync.{highest_same}

-- writes on disks below k
abbrev pub Below : {I : Type 0} → ℕ → List (On I) → Type 0
Below k [] = Unit {0}
Below k (x ∷ xs) = (x.disk < k) × Below k xs

pub below_append : {I : Type 0} (k : ℕ) (xs ys : List (On I)) → Below k xs → Below k ys → Below k (xs ++ ys)
below_append k [] ys a b = b
below_append k (x ∷ xs) ys a b = (a.0, below_append k xs ys a.1 b)

below_on_each : {I : Type 0} (k i n : ℕ) (x : I) → i + n ≤ k → Below k (on_each (numbers i n) x)
unfolding numbers on_each
below_on_each k i zero x h = tt
below_on_each k i (suc n) x h = (omega arith, below_on_each k (suc i) n x (omega arith))

pub below_mirrored : {I : Type 0} (k : ℕ) (xs : List I) → Below k (mirrored k xs)
unfolding mirrored
below_mirrored k [] = tt
below_mirrored k (x ∷ xs) = below_append k (on_each (numbers 0 k) x) (mirrored k xs) (below_on_each k 0 k x (omega arith)) (below_mirrored k xs)

below_all_on : (k i : ℕ) (ms : List Put) → i < k → Below k (all_on i ms)
unfolding all_on
below_all_on k i [] h = tt
below_all_on k i (m ∷ ms) h = (h, below_all_on k i ms h)

below_resync_from : (k i : ℕ) (b : List Page) (d : View) → i + length d ≤ k → Below k (resync i b d)
unfolding resync
below_resync_from k i b [] h = tt
below_resync_from k i b (y ∷ d) h =
    below_append k (cond y.lives (all_on i (highest 0 b y.has)) []) (resync (suc i) b d) (go y.lives) (below_resync_from k (suc i) b d (omega arith))
  where
    go : (t : Bool) → Below k (cond t (all_on i (highest 0 b y.has)) [])
    go true = below_all_on k i (highest 0 b y.has) (omega arith)
    go false = tt

pub below_resync : (b : List Page) (d : View) → Below (length d) (resync 0 b d)
below_resync b d = below_resync_from (length d) 0 b d (omega arith)

-- T of each item that is written
abbrev pub AllItems : {I : Type 0} → (I → Type 0) → List (On I) → Type 0
AllItems T [] = Unit {0}
AllItems T (x ∷ xs) = T x.item × AllItems T xs

pub items_append : {I : Type 0} (T : I → Type 0) (xs ys : List (On I)) → AllItems T xs → AllItems T ys → AllItems T (xs ++ ys)
items_append T [] ys a b = b
items_append T (x ∷ xs) ys a b = (a.0, items_append T xs ys a.1 b)

pub items_on_each : {I : Type 0} (T : I → Type 0) (is : List ℕ) (x : I) → T x → AllItems T (on_each is x)
unfolding on_each
items_on_each T [] x h = tt
items_on_each T (i ∷ is) x h = (h, items_on_each T is x h)

module _ {S I : Type 0} (step : I → S → S) (G : S → I → Type 0) (P Q : S → Type 0) (T : I → Type 0) (each : (s : S) (x : I) → G s x → T x) where
  items_mirrored : (k : ℕ) (s : S) (xs : List I) → Safely step G P Q s xs → AllItems T (mirrored k xs)
  unfolding mirrored
  items_mirrored k s [] h = tt
  items_mirrored k s (x ∷ xs) h = items_append T (on_each (numbers 0 k) x) (mirrored k xs) (items_on_each T (numbers 0 k) x (each s x h.1)) (items_mirrored k (step x s) xs h.2)

  -- what follows of an item where it is written holds of all that is still to be written
  pub shape_items : (d : List (Disk S)) (todo : List (On I)) → Shape step G P Q d todo → AllItems T todo
  shape_items d todo (agree s xs al has e safe) = subst (AllItems T) (sym e) (items_mirrored (length d) s xs safe)
  shape_items d todo (ahead s x xs j is al asc h e p g safe) =
      subst (AllItems T) (sym e) (items_append T (on_each is x) (mirrored (length d) xs) (items_on_each T is x (each s x g)) (items_mirrored (length d) (step x s) xs safe))

-- how many writes
length_on_each : {I : Type 0} (i k : ℕ) (x : I) → length (on_each (numbers i k) x) ≡ k
unfolding numbers on_each
length_on_each i zero x = refl
length_on_each i (suc k) x = ap suc (length_on_each (suc i) k x)

pub length_mirrored : {I : Type 0} (k : ℕ) (xs : List I) → length (mirrored k xs) ≡ k * length xs
unfolding mirrored
length_mirrored k [] = sym (mul-zero k)
length_mirrored k (x ∷ xs) =
    let e = length-append (on_each (numbers 0 k) x) (mirrored k xs) in
    let f = length_on_each 0 k x in
    let g = length_mirrored k xs in
    let h = mul-suc k (length xs) in
    omega arith

length_highest : (i : ℕ) (xs ys : List Page) → length (highest i xs ys) ≤ 1
unfolding highest
length_highest i [] ys = omega arith
length_highest i (x ∷ xs) [] = omega arith
length_highest i (x ∷ xs) (y ∷ ys) = go (highest (suc i) xs ys) (same_page x y) (length_highest (suc i) xs ys)
  where
    go : (ps : List Put) (t : Bool) → length ps ≤ 1 → length (or_else ps (cond t [] (record { block = i; content = x } ∷ []))) ≤ 1
    go [] true h = unfold or_else in omega arith
    go [] false h = unfold or_else in omega arith
    go (p ∷ ps) t h = unfold or_else in h

length_all_on : (i : ℕ) (ms : List Put) → length (all_on i ms) ≡ length ms
unfolding all_on
length_all_on i [] = refl
length_all_on i (m ∷ ms) = ap suc (length_all_on i ms)

length_copy : (t : Bool) (i : ℕ) (b x : List Page) → length (cond t (all_on i (highest 0 b x)) []) ≤ 1
length_copy true i b x = omega (arith, length_all_on i (highest 0 b x), length_highest 0 b x)
length_copy false i b x = omega arith

length_resync_all : (i : ℕ) (b : List Page) (d : View) → length (resync i b d) ≤ length d
unfolding resync
length_resync_all i b [] = omega arith
length_resync_all i b (y ∷ d) =
    let e = length-append (cond y.lives (all_on i (highest 0 b y.has)) []) (resync (suc i) b d) in
    let f = length_copy y.lives i b y.has in
    let g = length_resync_all (suc i) b d in
    omega arith

pub length_resync : (d : View) → length (resync 0 (source d) d) ≤ length d - 1
unfolding resync source all_on
length_resync [] = omega arith
length_resync (y ∷ d) = go y.lives refl
  where
    go : (t : Bool) → y.lives ≡ t → length (resync 0 (source (y ∷ d)) (y ∷ d)) ≤ length (y ∷ d) - 1
    go true e = rw (e, highest_same 0 y.has) (omega (arith, length_resync_all 1 y.has d))
    go false e = rw e (omega (arith, length_resync_all 1 (source d) d))

-- A disk's bytes as blocks: what a block that was written makes of them, and what reading shows.
use Rattle.std.proofs.Common.{◌≡◌, ℕ, zero, suc, ◌+◌, ◌*◌, ◌/◌, ◌<◌, ◌≤◌, min, List, [], ◌∷◌, length, take, drop, sym, refl, ap, ◌∙◌, inl, inr, arith, below_more}
use Rattle.std.proofs.lemmas.List.{drop-drop, length-drop}
use Rattle.std.proofs.lemmas.Bool.{cases_lt}
use Rattle.model.specs.Book.{Page, empty_page, nth, set_page}
use Rattle.octets.specs.Words.{overwritten}
use Rattle.octets.proofs.Parts.{length_overwritten, part_written_same, part_written_below, drop_written_past, take_written_below, drop_written_below}
use Rattle.device.specs.Blocks.{blocks, whole, block_of, Shows}

-- a block written is a page set
pub blocks_written : (n b : ℕ) (d p : List ℕ) → length p ≡ 1024 → 1024 * b + 1024 ≤ length d → blocks n (overwritten d (1024 * b) p) ≡ set_page (blocks n d) b p
unfolding blocks set_page
blocks_written zero b d p l h = refl
blocks_written (suc n) zero d p l h =
    let a : take 1024 (overwritten d 0 p) ≡ p = part_written_same d p 0 1024 l (omega arith) in
    let b : drop 1024 (overwritten d 0 p) ≡ drop 1024 d = drop_written_past d p 0 1024 (omega arith) (omega arith) in
    rw (a, b)
blocks_written (suc n) (suc b) d p l h =
    let e : 1024 * suc b ≡ 1024 + 1024 * b = omega arith in
    let i : 1024 + 1024 * b ≤ length d = omega arith in
    let j : 1024 * b + 1024 ≤ length (drop 1024 d) = rw (length-drop 1024 d) (omega arith) in
    rw (e, take_written_below d p (1024 + 1024 * b) 1024 (omega arith) i, drop_written_below d p (1024 * b) 1024 i, blocks_written n b (drop 1024 d) p l j)

pub nth_blocks : (n b : ℕ) (d : List ℕ) → b < n → nth (blocks n d) b ≡ block_of d b
unfolding blocks nth
nth_blocks (suc n) zero d h = refl
nth_blocks (suc n) (suc b) d h =
    let e : 1024 * suc b ≡ 1024 + 1024 * b = omega arith in
    let j : b < n = omega arith in
    rw (e, ← drop-drop (1024 * b) 1024 d) (nth_blocks n b (drop 1024 d) j)
nth_blocks zero b d h = absurd (omega arith)

pub length_blocks : (n : ℕ) (d : List ℕ) → length (blocks n d) ≡ n
unfolding blocks
length_blocks zero d = refl
length_blocks (suc n) d = ap suc (length_blocks n (drop 1024 d))

pub length_whole : (d : List ℕ) → length (whole d) ≡ length d / 1024
length_whole d = length_blocks (length d / 1024) d

pub block_inside : (d : List ℕ) (b : ℕ) → b < length (whole d) → 1024 * b + 1024 ≤ length d
block_inside d b h = let e = length_whole d in omega arith

pub whole_written : (d e p : List ℕ) (b : ℕ) → length p ≡ 1024 → b < length (whole d) → e ≡ overwritten d (1024 * b) p → whole e ≡ set_page (whole d) b p
whole_written d e p b l h g =
    let i = block_inside d b h in
    let n : length (overwritten d (1024 * b) p) ≡ length d = length_overwritten d p (1024 * b) (omega arith) in
    rw (g, n) (blocks_written (length d / 1024) b d p l i)

pub nth_past : (b : List Page) (i : ℕ) → length b ≤ i → nth b i ≡ empty_page
unfolding nth
nth_past [] i h = refl
nth_past (x ∷ b) zero h = absurd (omega arith)
nth_past (x ∷ b) (suc i) h = nth_past b i (omega arith)

pub set_past : (b : List Page) (i : ℕ) (p : Page) → length b ≤ i → set_page b i p ≡ b
unfolding set_page
set_past [] i p h = refl
set_past (x ∷ b) zero p h = absurd (omega arith)
set_past (x ∷ b) (suc i) p h = ap (λ c. x ∷ c) (set_past b i p (omega arith))

pub nth_whole : (d : List ℕ) (b : ℕ) → b < length (whole d) → nth (whole d) b ≡ block_of d b
nth_whole d b h = nth_blocks (length d / 1024) b d (let e = length_whole d in omega arith)

-- one block more was read into its place
pub one_more_shown : (out p : List ℕ) (b : List Page) (start i : ℕ) → length p ≡ 1024 → 1024 * i + 1024 ≤ length out → p ≡ nth b (start + i) →
    ((k : ℕ) → k < i → block_of out k ≡ nth b (start + k)) → (k : ℕ) → k < i + 1 → block_of (overwritten out (1024 * i) p) k ≡ nth b (start + k)
one_more_shown out p b start i l h e f =
    below_more _ _ (λ k q. part_written_below out p (1024 * i) (1024 * k) 1024 (omega arith) (omega arith) ∙ f k q) (part_written_same out p (1024 * i) 1024 l (omega arith) ∙ e)

-- past the end one block is as empty as another
pub shown_from_end : (out : List ℕ) (b : List Page) (from start n : ℕ) → start ≡ min from (length b) → length out / 1024 ≡ n → ((k : ℕ) → k < n → block_of out k ≡ nth b (start + k)) → Shows out b from
shown_from_end out b from start n e l f i h =
    f i (omega arith) ∙ elim (cases_lt (length b) from) [
      | inl q ↦ nth_past b (start + i) (omega arith) ∙ sym (nth_past b (from + i) (omega arith))
      | inr q ↦ let s : start ≡ from = omega arith in rw s
    ]

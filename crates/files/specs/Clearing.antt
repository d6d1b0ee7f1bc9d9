-- Bytes that are empty from a place on. Definitions only.
use Rattle.std.specs.Prelude.{◌≡◌, ℕ, ◌≤◌, List, slice_index}

-- all bytes from a place on are 0
abbrev pub EmptyFrom : ℕ → List ℕ → Type 0
EmptyFrom at xs = (k : ℕ) → at ≤ k → slice_index xs k ≡ 0

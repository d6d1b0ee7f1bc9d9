-- A disk's bytes as blocks. Definitions only.
use Rattle.std.specs.Prelude.{◌≡◌, ℕ, zero, suc, ◌+◌, ◌*◌, ◌/◌, ◌≤◌, List, [], ◌∷◌, length, take, drop}
use Rattle.model.specs.Numbers.{page_size}
use Rattle.model.specs.Book.{Page, nth}
use Rattle.octets.specs.Words.{part}

-- the first n blocks
unfoldable pub blocks : ℕ → List ℕ → List Page
blocks zero d = []
blocks (suc n) d = take page_size d ∷ blocks n (drop page_size d)

-- all whole blocks
abbrev pub whole : List ℕ → List Page
whole d = blocks (length d / page_size) d

-- block i of a disk's bytes
abbrev pub block_of : List ℕ → ℕ → Page
block_of d i = part d (page_size * i) page_size

-- bytes that show the blocks of a disk from a number on
abbrev pub Shows : List ℕ → List Page → ℕ → Type 0
Shows out b from = (i : ℕ) → page_size * i + page_size ≤ length out → block_of out i ≡ nth b (from + i)

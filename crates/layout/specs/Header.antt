-- The bytes of block 0, the journal's header. Definitions only.
use Rattle.std.specs.Prelude.{ℕ, Bool, cond, List, ◌∷◌, ◌++◌, ◌==◌, slice_index, codes, decimal}
use Rattle.model.specs.Book.{many}
use Rattle.octets.specs.Words.{le4, num4}

-- one byte, 1 where the log holds and 0 where it doesn't; the count in four bytes, low byte first; zeros
abbrev pub header_block : Bool → ℕ → List ℕ
header_block holds count = cond holds 1 0 ∷ (le4 count ++ many 1019 0)

-- a header in words
abbrev pub header_text : Bool → ℕ → List ℕ
header_text holds count =
    cond holds (codes "header: " ++ decimal count ++ codes " logged, holding")
    (cond (count == 0) (codes "header: empty") (codes "header: " ++ decimal count ++ codes " logged"))

abbrev pub flag_in : List ℕ → ℕ
flag_in block = slice_index block 0

abbrev pub holds_in : List ℕ → Bool
holds_in block = flag_in block == 1

abbrev pub count_in : List ℕ → ℕ
count_in block = num4 block 1

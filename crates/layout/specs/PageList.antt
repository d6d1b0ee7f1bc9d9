-- The bytes of block 1, the list of the log's pages: which page each write of the log is for, four bytes
-- each. What stands beyond the log's end is left as it was. Definitions only.
use Rattle.std.specs.Prelude.{ℕ, zero, suc, ◌*◌, Bool, true, ◌&&◌, List, nat_lt}
use Rattle.octets.specs.Words.{le4, num4, overwritten}

abbrev pub listed : List ℕ → ℕ → ℕ
listed list i = num4 list (4 * i)

abbrev pub list_with : List ℕ → ℕ → ℕ → List ℕ
list_with list i page = overwritten list (4 * i) (le4 page)

-- the first n pages of the list are below a number
unfoldable pub listed_below : List ℕ → ℕ → ℕ → Bool
listed_below list pages zero = true
listed_below list pages (suc n) = listed_below list pages n && nat_lt (listed list n) pages

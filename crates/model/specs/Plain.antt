-- Plain disks: blocks of a page each, and what is written lasts. Definitions only.
use Rattle.std.specs.Prelude.{◌≡◌, ℕ, ◌+◌, List, [], ◌∷◌, length}
use Rattle.model.specs.Numbers.{first_page}
use Rattle.model.specs.Book.{Page, set_page}
use Rattle.model.specs.Disks.{Medium}

-- one block put on one disk
pub record Put : Type 0 where
  pub block : ℕ
  pub content : Page

abbrev pub put : Put → List Page → List Page
put m b = set_page b m.block m.content

unfoldable pub puts : List Put → List Page → List Page
puts [] b = b
puts (m ∷ ms) b = puts ms (put m b)

-- what was written is read, power leaves all of it, and a disk fits if it has the right number of blocks
abbrev pub plain : Medium (List Page) Put
plain = record { step = put; look = λ b. b; falls = λ b c. c ≡ b; fits = λ n b. length b ≡ n + first_page }

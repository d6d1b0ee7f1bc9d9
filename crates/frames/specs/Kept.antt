-- How much of a call has to be kept. Definitions only.
use Rattle.std.specs.Prelude.{◌≡◌, ℕ, List, take}
use Rattle.model.specs.Book.{Limits, Book, answer, after}
use Rattle.wire.specs.Calls.{call_of}

-- whatever a call's bytes are, the first n of them have its answer, and leave the book that it leaves
abbrev pub Decide : ℕ → Type 0
Decide n =
    (l : Limits) (b : Book) (bs : List ℕ) →
    (answer l b (call_of (take n bs)) ≡ answer l b (call_of bs)) × (after l b (call_of (take n bs)) ≡ after l b (call_of bs))

-- What a block of a disk is. Definitions only.
use Rattle.std.specs.Prelude.{◌≡◌, ℕ, ◌+◌, ◌<◌, ◌≤◌}
use Rattle.model.specs.Numbers.{room, first_page, most_pages}
use Rattle.guard.specs.declared.part.Part.{Part}
use Rattle.guard.specs.declared.part.Part.TheVariants.{Header, List, Entry, Page, Nothing}

-- the header, the list of the log's pages, an entry of the log, a page, or past the end of every disk
abbrev pub Stands : ℕ → Part → Type 0
Stands block Header = block ≡ 0
Stands block List = block ≡ 1
Stands block (Entry i) = (block ≡ 2 + i) × (i < room)
Stands block (Page p) = (block ≡ first_page + p) × (p < most_pages)
Stands block Nothing = most_pages + first_page ≤ block

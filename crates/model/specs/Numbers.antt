-- The sizes that everything else is built on, each in this one place. Definitions only.
use Rattle.std.specs.Prelude.{ℕ, ◌+◌}

-- bytes in a page, and in a block
abbrev pub page_size : ℕ
page_size = 1024

-- how many writes the log has room for
abbrev pub room : ℕ
room = 256

-- the first block that holds a page: the header, the list of the log's pages and the log stand before it
abbrev pub first_page : ℕ
first_page = 2 + room

-- how many replicas the register keeps
abbrev pub copies : ℕ
copies = 2

-- the most pages that a register may have
abbrev pub most_pages : ℕ
most_pages = 16777216

-- How the header and the list are read together, whatever their bytes are. Definitions only.
--
-- A register writes only headers whose first byte is 0 or 1, whose count is at most the log's room, and
-- whose list names pages of the book. Any other header is read as an empty one: the log doesn't hold, and
-- nothing waits. So whatever stands on a disk, every plan is bounded and stays within the disk.
use Rattle.std.specs.Prelude.{ℕ, Bool, false, cond, ◌&&◌, List, nat_le, codes}
use Rattle.model.specs.Numbers.{room}
use Rattle.layout.specs.Header.{flag_in, holds_in, count_in}
use Rattle.layout.specs.PageList.{listed_below}
use Rattle.layout.specs.declared.log.Strange.{Strange}
use Rattle.layout.specs.declared.log.Strange.TheVariants.{Flag, Count as Counted, Page}

-- a header that a register with so many pages may have written
abbrev pub sane : List ℕ → List ℕ → ℕ → Bool
sane header list pages = nat_le (flag_in header) 1 && nat_le (count_in header) room && listed_below list pages (count_in header)

-- whether the log holds, and how many writes are in it
abbrev pub log_holds : List ℕ → List ℕ → ℕ → Bool
log_holds header list pages = cond (sane header list pages) (holds_in header) false

abbrev pub log_count : List ℕ → List ℕ → ℕ → ℕ
log_count header list pages = cond (sane header list pages) (count_in header) 0

-- what is strange, in words
abbrev pub strange_text : Strange → List ℕ
strange_text Flag = codes "its first byte is neither 0 nor 1"
strange_text Counted = codes "it counts more writes than the log has room for"
strange_text Page = codes "the list names a page that is not there"

-- The register as a program: the journal over the mirror. Definitions only.
--
-- Count and list are read off the disks at each call; nothing is kept in memory between calls, so nothing
-- in memory can disagree with the disks.
use Rattle.std.specs.Prelude.{◌+◌, List, [], ◌∷◌, ◌++◌, length}
use Rattle.model.specs.Numbers.{first_page, copies}
use Rattle.model.specs.Book.{answer}
use Rattle.model.specs.Disks as list
use Rattle.model.specs.Disks.{On, View}
use Rattle.model.specs.Plain.{Put}
use Rattle.model.specs.Two as two
use Rattle.mirror.specs.Mirror.{mirrored, source, resync}
use Rattle.journal.specs.Journal.{recovery, book_of, puts_of, blank_puts}

-- recovery: the replicas are made the same, then the journal's own recovery goes to all of them
abbrev pub recovery_writes : View → List (On Put)
recovery_writes d = resync 0 (source d) d ++ mirrored (length d) (recovery (source d))

abbrev pub register : list.Program Put
register = record {
  makes = λ k n. mirrored k (blank_puts 0 (n + first_page));
  mends = recovery_writes;
  starts = λ l d. [];
  says = λ l m d c. answer l (book_of (source d)) c;
  writes = λ l m d c. mirrored (length d) (puts_of l (source d) c);
  keeps = λ l m d c. [];
}

-- two disks with names as a list of two
abbrev pub listed_disks : two.Disks → View
listed_disks d = record { has = d.first; lives = d.first_lives } ∷ (record { has = d.second; lives = d.second_lives } ∷ [])

abbrev pub as_write : On Put → two.Write
as_write x = record { disk = x.disk; at = x.item.block; block = x.item.content }

unfoldable pub as_writes : List (On Put) → List two.Write
as_writes [] = []
as_writes (x ∷ xs) = as_write x ∷ as_writes xs

-- a program over a list of disks as one over two
abbrev pub for_two : list.Program Put → two.Program
for_two f = record {
  makes = λ n. as_writes (f.makes copies n);
  mends = λ d. as_writes (f.mends (listed_disks d));
  starts = λ l d. f.starts l (listed_disks d);
  says = λ l m d c. f.says l m (listed_disks d) c;
  writes = λ l m d c. as_writes (f.writes l m (listed_disks d) c);
  keeps = λ l m d c. f.keeps l m (listed_disks d) c;
}

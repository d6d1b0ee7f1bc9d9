-- What is known of one disk, and what its calls do to that. Definitions only.
use Rattle.std.specs.Prelude.{◌≡◌, ℕ, Bool, true, false, List, Some, None, Option}
use Rattle.model.specs.Book.{Page, set_page}
use Rattle.model.specs.Disks.{Disk}
use Rattle.device.specs.Blocks.{Shows}

-- a disk's blocks, and whether it lives
abbrev pub Known : Type 0
Known = Disk (List Page)

abbrev pub living : List Page → Known
living b = record { has = b; lives = true }

abbrev pub dead : List Page → Known
dead b = record { has = b; lives = false }

-- a call finds the disk alive and does what it should, or finds it dead, for good, and does nothing; of a
-- disk of which nothing is known nothing is said
abbrev pub Written : Option Known → Option Known → ℕ → Page → Bool → Type 0
Written None after at p r = Unit {0}
Written (Some k) after at p true = (k.lives ≡ true) × (after ≡ Some (living (set_page k.has at p)))
Written (Some k) after at p false = after ≡ Some (dead k.has)

abbrev pub Shown : Option Known → Option Known → ℕ → List ℕ → Bool → Type 0
Shown None after from out r = Unit {0}
Shown (Some k) after from out true = (k.lives ≡ true) × (after ≡ Some (living k.has)) × Shows out k.has from
Shown (Some k) after from out false = after ≡ Some (dead k.has)

abbrev pub Lives : Option Known → Bool → Type 0
Lives None r = Unit {0}
Lives (Some k) r = r ≡ k.lives

-- The two sides of a mirror, and the disk on each. Definitions only.
use Rattle.std.specs.Prelude.{ℕ, List, codes}
use Rattle.std.specs.Borrow.{Lends, Fml, RattleType, MutBor}
use Rattle.device.specs.declared.mirror.Mirror.{Mirror}
use Rattle.device.specs.declared.mirror.Side.{Side}
use Rattle.device.specs.declared.mirror.Side.TheVariants.{First, Second}
use Rattle.device.specs.contracts.mirror.Mirror.{the_row}

-- a side in words
abbrev pub side_name : Side → List ℕ
side_name First = codes "first"
side_name Second = codes "second"

abbrev pub other : Side → Side
other First = Second
other Second = First

module _ {D : Type 0} where
  -- the disk of a side
  abbrev pub disk_at : Side → Mirror D → D
  disk_at First m = m.first
  disk_at Second m = m.second

  -- a mirror with this disk on a side
  abbrev pub with_disk : Side → Mirror D → D → Mirror D
  with_disk First m d = record m { first = d }
  with_disk Second m d = record m { second = d }

-- once the borrow r ends, the disk of that side is the last value written through r
abbrev pub lends_disk : (D : RattleType) → MutBor (Mirror D.Denot) → Side → MutBor D.Denot → Fml
lends_disk D m side r = Lends (the_row D) D m r (with_disk side m.now)

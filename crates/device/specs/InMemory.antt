-- Disks in memory, of which all is known: their bytes. Definitions only.
use Rattle.std.specs.Prelude.{vec_items}
use Rattle.device.specs.Blocks.{whole}
use Rattle.device.specs.Known.{Known}
use Rattle.device.specs.Ran.{Both}
use Rattle.device.specs.declared.memory.MemDisk.{MemDisk}
use Rattle.device.specs.declared.mirror.Mirror.{Mirror}

-- the blocks that its bytes are, and whether it lives
abbrev pub disk_of : MemDisk → Known
disk_of d = record { has = whole (vec_items d.bytes); lives = d.alive }

abbrev pub both_of : Mirror MemDisk → Both
both_of m = record { first = disk_of m.first; second = disk_of m.second }

-- Disks that were given up. Definitions only.
use Rattle.std.specs.Prelude.{◌≡◌, true, false}
use Rattle.device.specs.declared.mirror.Mirror.{Mirror}
use Rattle.files.specs.Life.{lives}
use Rattle.guard.specs.declared.pair.Named.{Named}

-- a disk is dead and known to be
abbrev pub IsGone : Named → Type 0
IsGone d = (lives d.disk.life ≡ false) × (d.gone ≡ true)

-- both are, so that nothing more is written or answered
abbrev pub GivenUp : Mirror Named → Type 0
GivenUp both = IsGone both.first × IsGone both.second

-- Whether a disk that is a file lives, and why it died. Definitions only.
use Rattle.std.specs.Prelude.{Bool, true, false, Option, None, Some}
use Rattle.files.specs.declared.disk.Fault.{Fault}
use Rattle.files.specs.declared.disk.Life.{Life}
use Rattle.files.specs.declared.disk.Life.TheVariants.{Alive, GivenUp, Failed}

-- whether it lives
abbrev pub lives : Life → Bool
lives Alive = true
lives GivenUp = false
lives (Failed _) = false

-- the fault that it died of while it was used, if it did
abbrev pub fault_of : Life → Option Fault
fault_of Alive = None
fault_of GivenUp = None
fault_of (Failed fault) = Some fault

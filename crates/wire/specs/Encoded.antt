-- What an encoder leaves. Definitions only.
use Rattle.std.specs.Prelude.{◌≡◌, ℕ, ◌<◌, ◌≤◌, List, length, Some, None, Option}
use Rattle.octets.specs.Words.{overwritten}

-- the bytes stand at the front of what was lent, and their number is told; where there is no room for them,
-- nothing is changed
abbrev pub Encoded : Option ℕ → List ℕ → List ℕ → List ℕ → Type 0
Encoded (Some n) bs before after = (length bs ≤ length before) × (n ≡ length bs) × (after ≡ overwritten before 0 bs)
Encoded None bs before after = (length before < length bs) × (after ≡ before)

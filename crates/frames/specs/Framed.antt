-- Frames: how many bytes of a call one has, which bytes an answer's frame is, and what is read and written where
-- the bytes of a reader or a writer are known. Definitions only.
use Rattle.std.specs.Prelude.{◌≡◌, ℕ, min, ◌<◌, ◌≤◌, List, ◌++◌, length, Some, None, Option}
use Rattle.std.specs.Borrow.{Bor}
use Rattle.std.specs.Io.KnownBytes.{Appends, Consumes, IsAtEnd}
use Rattle.octets.specs.Words.{le4, num4}

-- what is kept of a call has its room
abbrev pub Room : Option (Bor (List ℕ)) → Type 0
Room (Some call) = length call.now ≤ 1030
Room None = Unit {0}

-- bytes behind their length in four; none, where there are more than an answer has
abbrev pub Framed : List ℕ → List ℕ → Type 0
Framed bs frame = (length bs ≤ 1025 → frame ≡ le4 (length bs) ++ bs) × (1025 < length bs → frame ≡ le4 0)

-- the frame of these bytes was written, where what a writer holds is known
abbrev pub Told : List ℕ → Option (List ℕ) → Option (List ℕ) → Type 0
Told bs before after = (frame : List ℕ) × Framed bs frame × Appends before after frame

-- where a reader's bytes are known, these are the next
abbrev pub BeginsWith : Option (List ℕ) → List ℕ → Type 0
BeginsWith None bs = Unit {0}
BeginsWith (Some xs) bs = (rest : List ℕ) × (xs ≡ bs ++ rest)

-- four bytes are this number
abbrev pub IsLength : List ℕ → ℕ → Type 0
IsLength bs n = (length bs ≡ 4) × (num4 bs 0 ≡ n)

-- a length was read, or there was nothing
abbrev pub LengthRead : Option (List ℕ) → Option (List ℕ) → Option ℕ → Type 0
LengthRead before after (Some n) = (bs : List ℕ) × IsLength bs n × Consumes before after bs
LengthRead before after None = IsAtEnd before

-- what was read is a length and then that call, of which the first 1,030 bytes are lent; or there was nothing
abbrev pub Heard : Option (List ℕ) → Option (Bor (List ℕ)) → Type 0
Heard before (Some call) = (n : ℕ) × (bs : List ℕ) × IsLength bs n × (length call.now ≡ min n 1030) × BeginsWith before (bs ++ call.now)
Heard before None = IsAtEnd before

-- A call that is kept in a field of a fixed size. Definitions only.
use Rattle.std.specs.Prelude.{ℕ, ◌-◌, List, ◌++◌, length, replicate}

-- the bytes of a call, and zeros behind them
abbrev pub padded : List ℕ → List ℕ
padded call = call ++ replicate (1030 - length call) 0

use Rattle.std.proofs.Common.{◌≡◌, take, vec_len, ◌≤◌}
use Rattle.script.proofs.hex.push_pairs.Given as goal

-- what was there stays in front
abbrev pub invariant-loop-pair : goal.invariant-loop-pair
invariant-loop-pair l = (vec_len l.fn.out ≤ vec_len l.out) × (take (vec_len l.fn.out) l.out.items ≡ l.fn.out.items)

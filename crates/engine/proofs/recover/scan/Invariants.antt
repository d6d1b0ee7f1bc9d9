use Rattle.std.proofs.Common.{◌≡◌, ◌*◌, min, length}
use Rattle.engine.specs.Recovering.{ReadThrough}
use Rattle.engine.proofs.recover.scan.Given as goal

abbrev pub invariant-loop-piece : goal.invariant-loop-piece
invariant-loop-piece g l =
    (length l.first ≡ 262144) × (length l.second ≡ 262144)
    × ReadThrough (g.P.Pair.disks l.initial.disks) (g.P.Pair.disks l.disks) (min (256 * l.piece) l.blocks) l.highest l.block

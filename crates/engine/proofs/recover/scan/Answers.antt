use Rattle.std.proofs.Common.{ℕ, ◌-◌, ◌*◌, ◌∙◌, arith}
use borrow.Rule.Slice.PartMut.{same_len_mid}
use lib.ListN.{length-replicate}
use Rattle.engine.proofs.Scanning.{through_none, through_piece, blocks_front, scanned_all, scanned_dead}
use Rattle.engine.proofs.recover.scan.Goals as goal

pub loop-piece-init : goal.loop-piece-init
loop-piece-init g c = (length-replicate {A = ℕ} 262144 0, length-replicate {A = ℕ} 262144 0, through_none _ _ c.args.block.now (omega arith))

pub returns-in_default : goal.returns-in_default
returns-in_default g c =
    scanned_dead _ _ _ c.args.pages _ (256 * c.loop-piece.piece) c.min.result _ _ _ c.scan_piece.new.block c.loop-piece.invariant.2 c.in_default.ensures

pub loop-piece-preserved : goal.loop-piece-preserved
loop-piece-preserved g c =
    let n = blocks_front c.min.result c.loop-piece.first c.loop-piece.second c.loop-piece.invariant.0 c.loop-piece.invariant.1 (omega arith) in (
      same_len_mid 0 (1024 * c.min.result - 0) c.loop-piece.first c.scan_piece.new.first c.scan_piece.auto.first ∙ c.loop-piece.invariant.0,
      same_len_mid 0 (1024 * c.min.result - 0) c.loop-piece.second c.scan_piece.new.second c.scan_piece.auto.second ∙ c.loop-piece.invariant.1,
      through_piece _ _ _ _ _ _ _ _ _ _ c.loop-piece.block c.scan_piece.new.block (omega arith) (omega arith) c.or-highest.ensures c.loop-piece.invariant.2 c.in-Ok.ensures,
    )

pub returns : goal.returns
returns g c = scanned_all _ _ c.args.pages _ _ _ (omega arith) c.loop-piece.invariant.2

use Rattle.std.proofs.Common.{refl, rules}
use Rattle.engine.proofs.Scanning.{piece_same, piece_differs}
use Rattle.engine.proofs.recover.scan_piece.Goals as goal

pub returns-in_default : goal.returns-in_default
returns-in_default g c = piece_same _ _ c.args.from _ c.read_both.new.first c.read_both.new.second _ c.args.block.now (search rules) c.in_ok-read_both.ensures refl c.in_default.ensures.value

pub returns : goal.returns
returns g c =
    piece_differs _ _ c.args.from _ c.in-Some.i c.read_both.new.first c.read_both.new.second _ c.args.block.now c.copy_block.new.to (search rules) c.in_ok-read_both.ensures
    refl c.in-Some.ensures.value (search rules)

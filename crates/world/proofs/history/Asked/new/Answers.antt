use Rattle.std.proofs.Common.{ℕ, length, replicate, ◌∙◌, arith}
use borrow.Rule.Slice.PartMut.{Post-is}
use Rattle.std.proofs.lemmas.List.{drop-replicate}
use Rattle.world.proofs.Padding.{padded_on}
use Rattle.world.proofs.history.Asked.new.Goals as goal

pub invariant_of-result : goal.invariant_of-result
invariant_of-result c =
    let n = length c.args.call.now in
    padded_on c.args.call.now c.copy_from_slice.new.self _ (omega arith) c.copy_from_slice.ensures.after (Post-is 0 n (replicate {A = ℕ} 1030 0) (omega arith) ∙ drop-replicate n 1030 0)

use Rattle.std.proofs.Common.{ℕ, List, refl, ap, ◌∙◌, rules}
use Rattle.layout.specs.Reading.{log_holds, log_count}
use Rattle.engine.proofs.Recovering.{worked_out}
use Rattle.engine.proofs.recover.replaying.Goals as goal

pub returns : goal.returns
returns c =
    let list = c.block_at.result.now in
    let header = c.block_at-2.ensures.value in
    let holds = c.decode.ensures.holds ∙ ap (λ (h : List ℕ). log_holds h list c.args.pages) header in
    let count = c.decode.ensures.count ∙ ap (λ (h : List ℕ). log_count h list c.args.pages) header in
    record {
      keeps = (refl, refl);
      plan = worked_out c.args.bytes.now list c.args.block c.args.pages _ _ c.replay.result (search rules) c.block_at.ensures.value holds count c.replay.ensures;
    }

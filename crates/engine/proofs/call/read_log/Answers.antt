use Rattle.std.proofs.Common.{◌∙◌, refl, rules}
use Rattle.engine.proofs.Calling.{log_was_read}
use Rattle.engine.proofs.call.read_log.Goals as goal

pub returns : goal.returns
returns g c =
    log_was_read _ _ c.args.pages c.read.new.out c.block_at-2.result.now c.copy_block.new.to _ c.decode.result c.in_ok-read.ensures refl (search rules)
    c.block_at-2.ensures.value (c.copy_block.ensures ∙ c.block_at.ensures.value) c.decode.ensures.holds c.decode.ensures.count

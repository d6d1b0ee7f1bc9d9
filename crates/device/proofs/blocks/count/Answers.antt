use Rattle.std.proofs.Common.{sym}
use Rattle.device.proofs.Whole.{length_whole}
use Rattle.device.proofs.blocks.count.Goals as goal

pub returns-clause-value : goal.returns-clause-value
returns-clause-value c = sym (length_whole c.args.disk.now)

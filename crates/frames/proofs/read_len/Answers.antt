use Rattle.frames.proofs.Streams.{length_read}
use Rattle.std.proofs.Common.{rules}
use Rattle.frames.proofs.read_len.Goals as goal

pub returns : goal.returns
returns g c =
    length_read _ _ _ _ _ c.in_ok-read.field-0 _ (search rules) (search rules) c.in_ok-read.ensures.bound.0 c.if-branch-eq0.false c.in_ok-read.ensures.bytes.0 c.in_ok-read_exact.ensures.bytes c.from_le_bytes.ensures

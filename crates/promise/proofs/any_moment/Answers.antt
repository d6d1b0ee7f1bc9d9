use Rattle.promise.proofs.Moments.{one_differs, log_same, reads_late, headers_sane}
use Rattle.promise.proofs.Within.{stays_within}
use Rattle.promise.proofs.any_moment.Goals as goal

pub returns : goal.returns
returns c = record { differ = one_differs; log = log_same; late = reads_late; within = stays_within; headers = headers_sane }

use Rattle.journal.proofs.Admitted.{refusals_are}
use Rattle.journal.proofs.admit.refusals_stand.Goals as goal

pub returns : goal.returns
returns c = refusals_are

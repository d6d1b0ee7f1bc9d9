use Rattle.model.proofs.Holding.{goes_on_holding, refused_changes_nothing}
use Rattle.model.proofs.book_stands.Goals as goal

pub returns : goal.returns
returns c = record { holding = goes_on_holding; refused = refused_changes_nothing }

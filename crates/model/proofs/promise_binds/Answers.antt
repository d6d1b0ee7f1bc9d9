use Rattle.model.specs.Plain.{plain}
use Rattle.model.proofs.FirstAnswer.{first_answer_is_right}
use Rattle.model.proofs.promise_binds.Goals as goal

pub returns : goal.returns
returns c = λ can f right. first_answer_is_right plain can f right

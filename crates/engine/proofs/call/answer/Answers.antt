use Rattle.std.proofs.Common.{Some, None, false, refl}
use Rattle.std.proofs.lemmas.Result.{err_from_is_err_and}
use Rattle.wire.specs.Calls.{call_of}
use Rattle.engine.proofs.Calling.{answered, died_answering, died_beginning}
use Rattle.engine.proofs.Living.{answer_lives}
use Rattle.engine.proofs.call.answer.Goals as goal

pub returns-in_err-turn : goal.returns-in_err-turn
returns-in_err-turn g c =
    let told = died_beginning _ _ c.args.pages (call_of c.args.bytes.now) c.begin.new.page c.in_err-turn.ensures in
    let p = err_from_is_err_and c.from_residual.result c.from_residual.ensures.1 in
    rw p.1 (record { told = told; lives = answer_lives _ _ c.args.pages (call_of c.args.bytes.now) c.begin.new.page None told })

pub returns-in_err-finish : goal.returns-in_err-finish
returns-in_err-finish g c =
    let told = died_answering _ _ _ c.args.pages (call_of c.args.bytes.now) c.begin.new.page c.in_ok-turn.turn false c.in_ok-turn.ensures c.in_err-finish.ensures refl in
    let p = err_from_is_err_and c.from_residual-in_err-finish.result c.from_residual-in_err-finish.ensures.1 in
    rw p.1 (record { told = told; lives = answer_lives _ _ c.args.pages (call_of c.args.bytes.now) c.begin.new.page None told })

pub returns : goal.returns
returns g c =
    let told = answered _ _ _ c.args.pages (call_of c.args.bytes.now) c.begin.new.page c.in_ok-turn.turn _ c.in_ok-turn.ensures c.in_ok-finish.ensures refl in
    record { told = told; lives = answer_lives _ _ c.args.pages (call_of c.args.bytes.now) c.begin.new.page (Some c.in_ok-turn.turn.reply) told }

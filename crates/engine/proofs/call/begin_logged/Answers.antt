use Rattle.std.proofs.Common.{◌∙◌}
use Rattle.std.proofs.lemmas.Result.{err_from_is_err_and}
use Rattle.wire.specs.Calls.{meant}
use Rattle.engine.proofs.Calling.{logged_turn, refused_turn, late_refused, no_place}
use Rattle.engine.proofs.call.begin_logged.Goals as goal

pub returns-in-Err : goal.returns-in-Err
returns-in-Err g c d is b agree len =
    let h = c.in_ok-log.ensures d is b agree len in
    let f = c.in-Err.ensures in
    let call = meant c.args.call in (
      h.0,
      h.1,
      h.2,
      refused_turn c.args.pages b call c.args.page.now c.idle.result c.in-Err.refusal c.requires.1.0
          (late_refused c.args.pages b call c.in-Err.refusal _ c.requires.1.0 c.requires.0 h.3.1 f.0) (f.1 ∙ no_place c.args.call)
          c.idle.ensures.reply c.idle.ensures.plan c.idle.ensures.copy,
    )

pub returns-in-Ok : goal.returns-in-Ok
returns-in-Ok g c d is b agree len =
    let h = c.in_ok-log.ensures d is b agree len in
    let f = c.in-Ok.ensures in (
      h.0,
      h.1,
      h.2,
      logged_turn c.args.pages b (meant c.args.call) c.args.page.now c.writing.result c.in_ok-log.log.count.writes c.in-Ok.plan c.read_log.new.list c.given.result
          c.requires.1.0 c.requires.1.1 c.requires.0 h.3.1 f.0 c.given.ensures f.1 h.3.2
          c.writing.ensures.reply c.writing.ensures.plan c.writing.ensures.copy c.writing.ensures.list c.writing.ensures.block,
    )

pub returns-in_err-log : goal.returns-in_err-log
returns-in_err-log g c d is b agree len =
    let h = c.in_err-log.ensures d is b agree len in
    let p = err_from_is_err_and c.from_residual.result c.from_residual.ensures.1 in
    (h.0, h.1, h.2, rw p.1 h.3)

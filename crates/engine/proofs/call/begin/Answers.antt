use Rattle.wire.specs.declared.answer.Answer.TheVariants.{Refused}
use Rattle.std.proofs.Common.{◌≡◌, refl, sym, ap, ◌∙◌, subst, arith, rules}
use Rattle.model.specs.Book as book
use Rattle.model.specs.Book.{bytes, Call}
use Rattle.octets.proofs.Parts.{bytes_from}
use Rattle.device.specs.Ran.{stays}
use Rattle.wire.specs.Calls.{meant, call_of}
use Rattle.wire.specs.declared.call.Call.{Call as CodeCall}
use Rattle.journal.specs.Admission.{early, InBytes}
use Rattle.engine.specs.Calling.{TurnIs}
use Rattle.engine.proofs.Calling.{garbled_turn, refused_turn, early_refused, no_place, came_in_bytes, logs_call, begun_as, read_turn, size_turn, page_was_read}
use Rattle.engine.proofs.call.begin.Goals as goal

pub returns-in-Err : goal.returns-in-Err
returns-in-Err g c d is b agree len = (
  d,
  is,
  stays,
  garbled_turn c.args.pages c.in-Err.error.place b c.args.page.now c.idle.result (call_of c.args.bytes.now) (sym c.in-Err.ensures)
      (c.idle.ensures.reply ∙ ap Refused c.into.ensures) c.idle.ensures.plan c.idle.ensures.copy,
)

pub returns-in-Err-admit : goal.returns-in-Err-admit
returns-in-Err-admit g c d is b agree len =
    let f = c.in-Err-admit.ensures in
    let e = c.in-Ok.ensures in
    let call = meant c.in-Ok.call in
    let ok : InBytes call = came_in_bytes c.args.bytes.now c.in-Ok.call (bytes_from c.args.bytes.now (λ i. omega (arith, c.type_inv.bytes i))) e in
    let P : Call → Type 0 = λ x. TurnIs c.args.pages b x c.args.page.now c.idle-in-Err-admit.result in (
      d,
      is,
      stays,
      subst P e
          (refused_turn c.args.pages b call c.args.page.now c.idle-in-Err-admit.result c.in-Err-admit.refusal ok
          (early_refused c.args.pages b call c.in-Err-admit.refusal ok f.0) (f.1 ∙ no_place c.in-Ok.call)
          c.idle-in-Err-admit.ensures.reply c.idle-in-Err-admit.ensures.plan c.idle-in-Err-admit.ensures.copy),
    )

pub begin_logged-requires : goal.begin_logged-requires
begin_logged-requires g c =
    let f = c.in-Ok-admit.ensures in
    let e = c.in-Ok.ensures in (
      ap (early c.args.pages) f.1 ∙ f.0,
      (
        came_in_bytes c.args.bytes.now c.in-Ok-admit.call (bytes_from c.args.bytes.now (λ i. omega (arith, c.type_inv.bytes i))) (f.1 ∙ e),
        logs_call c.in-Ok-admit.call c.in-Write.is,
      ),
    )

pub returns-in_ok-read-in-Read : goal.returns-in_ok-read-in-Read
returns-in_ok-read-in-Read g c d is b agree len =
    let f = c.in-Ok-admit.ensures in
    let a = c.in-Read.number in
    let was : book.read a ≡ meant c.in-Ok.call = ap (λ (x : CodeCall). meant x) (sym c.in-Read.is) ∙ f.1 in
    let z = page_was_read _ _ c.page.result c.read.new.out _ c.in_ok-read-in-Read.ensures refl (search rules) d is b agree in
    let P : Call → Type 0 = λ x. TurnIs c.args.pages b x c.read.new.out c.idle-in-Read.result in (
      z.0,
      z.1,
      z.2,
      subst P (was ∙ c.in-Ok.ensures)
          (read_turn c.args.pages a b c.read.new.out c.idle-in-Read.result (ap (early c.args.pages) was ∙ f.0) (z.3 ∙ ap (book.nth b) c.page.ensures)
          c.idle-in-Read.ensures.reply c.idle-in-Read.ensures.plan c.idle-in-Read.ensures.copy),
    )

pub returns-in-Size : goal.returns-in-Size
returns-in-Size g c d is b agree len =
    let f = c.in-Ok-admit.ensures in
    let was : book.size ≡ meant c.in-Ok.call = ap (λ (x : CodeCall). meant x) (sym c.in-Size.is) ∙ f.1 in
    let P : Call → Type 0 = λ x. TurnIs c.args.pages b x c.args.page.now c.idle-in-Size.result in (
      d,
      is,
      stays,
      subst P (was ∙ c.in-Ok.ensures)
          (size_turn c.args.pages b c.args.page.now c.idle-in-Size.result (ap (early c.args.pages) was ∙ f.0)
          c.idle-in-Size.ensures.reply c.idle-in-Size.ensures.plan c.idle-in-Size.ensures.copy),
    )

pub returns-in-Write : goal.returns-in-Write
returns-in-Write g c =
    let f = c.in-Ok-admit.ensures in
    begun_as _ _ c.args.pages (meant c.in-Ok-admit.call) (call_of c.args.bytes.now) c.args.page.now _ (f.1 ∙ c.in-Ok.ensures) c.begin_logged.ensures

use Rattle.std.proofs.Common.{true, sym, refl, ap, ◌∙◌, subst, rules}
use Rattle.std.proofs.lemmas.Bool.{both_ways}
use Rattle.device.specs.Ran.{stays}
use Rattle.engine.specs.declared.write.WriteKind.{WriteKind}
use Rattle.engine.specs.Works.{KindReads, written}
use Rattle.engine.proofs.Doing.{is_second, is_first, held_for_second, read_readied}
use Rattle.engine.proofs.perform.ready.Goals as goal

pub returns-in_default : goal.returns-in_default
returns-in_default g c d is b list can =
    (d, is, stays, (λ _. ap (written c.args.work.now.block b) (sym c.in_default.is)), λ h. absurd (both_ways true h refl))

pub returns-then-eq : goal.returns-then-eq
returns-then-eq g c d is b list can = (
  d,
  is,
  stays,
  (λ _. held_for_second c.args.work.now b d c.args.write.disk c.args.write.kind c.args.held.now c.in-Journal.kind (is_second c.args.write.disk c.if-eq.ensures) c.in-Journal.is can),
  λ h. absurd (both_ways true h refl),
)

pub returns-in-None : goal.returns-in-None
returns-in-None g c d is b list can = (
  d,
  is,
  stays,
  (λ _. c.in-None.ensures b list ∙ ap (written c.args.work.now.block b) (sym c.in-Journal.is)),
  λ h. absurd (both_ways true h refl),
)

pub returns-in-Some : goal.returns-in-Some
returns-in-Some g c =
    let K : WriteKind → Type 0 = λ x. KindReads c.args.work.now.plan x in
    read_readied _ _ c.args.work.now c.args.write c.args.held.now c.read.new.out c.in-Some.block _ c.in-Journal.kind c.in-Journal.is (is_first c.args.write.disk c.if-eq.ensures)
    (search rules) (subst K c.in-Journal.is c.requires) (λ b list. let z = c.in-Some.ensures b list in (z.1, z.2)) c.read.ensures

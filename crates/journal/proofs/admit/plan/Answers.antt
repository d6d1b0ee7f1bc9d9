use Rattle.std.proofs.Common.{◌≡◌, ℕ, ◌⊎◌, List, [], refl, sym, ◌∙◌, inl, inr}
use Rattle.std.proofs.lemmas.Bool.{lt-ltb}
use Rattle.model.specs.Numbers.{room}
use Rattle.model.specs.Book.{Page}
use Rattle.wire.specs.Calls.{meant}
use Rattle.wire.specs.declared.call.Call.{Call}
use Rattle.wire.specs.declared.call.Call.TheVariants.{Read, Size}
use Rattle.journal.specs.Journal.{call_puts}
use Rattle.journal.specs.Admission.{late}
use Rattle.journal.proofs.Admitted.{write_planned, close_planned}
use Rattle.journal.proofs.admit.plan.Goals as goal

pub returns-in-Some : goal.returns-in-Some
returns-in-Some c =
    let p = c.in-Some.ensures in
    let h = lt-ltb c.args.log.count.writes room p.1 in
    simp (c.in-Write.is, h) (refl, λ b given q f. write_planned b c.in-Some.slot c.in-Write.page given c.in-Write.bytes.now (q ∙ sym p.0) f)

pub returns-in-Close : goal.returns-in-Close
returns-in-Close c = simp c.in-Close.is (refl, λ b given q f. close_planned b c.args.log.count given q)

-- a read and a size put nothing
idle : (n : ℕ) (call : Call) → ((x : ℕ) × (call ≡ Read x)) ⊎ (call ≡ Size) → (late n (meant call) ≡ 0) × ((b : List Page) → [] ≡ call_puts b (meant call))
unfolding call_puts
idle n call (inl (x, e)) = rw e (refl, λ b. refl)
idle n call (inr e) = rw e (refl, λ b. refl)

pub returns-in-Read : goal.returns-in-Read
returns-in-Read c = let i = idle c.args.log.count.writes c.args.call c.in-Read.is in (i.0, λ b given q f. i.1 b)

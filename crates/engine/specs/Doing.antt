-- What doing a work's writes makes of two disks of which all is known. Definitions only.
--
-- Each statement is for any disks d and any b, the logical disk as it was when the work began: the disks
-- afterwards are reached from d by the model's writes, in order, with deaths before, between and after
-- them. Where pages of the log are read late, the living disks still have the log of b.
use Rattle.std.specs.Prelude.{◌≡◌, ℕ, ◌+◌, ◌<◌, Bool, true, false, List, [], ◌∷◌, take, Some, None, Option}
use Rattle.std.specs.List.{slice_get as item}
use Rattle.model.specs.Numbers.{room, copies}
use Rattle.model.specs.Book.{Page, nth}
use Rattle.model.specs.Disks.{on, View}
use Rattle.model.specs.Plain.{Put}
use Rattle.device.specs.declared.mirror.Side.{Side}
use Rattle.device.specs.declared.mirror.Side.TheVariants.{First, Second}
use Rattle.device.specs.Ran.{Ran, Both, view, one_lives}
use Rattle.mirror.specs.Mirror.{mirrored}
use Rattle.journal.specs.Plans.{replays, content, step_put, plan_puts}
use Rattle.journal.specs.declared.plan.Step.{Step}
use Rattle.engine.specs.declared.write.Write.{Write}
use Rattle.engine.specs.declared.write.WriteKind.{WriteKind}
use Rattle.engine.specs.declared.write.WriteKind.TheVariants.{Copied, Journal}
use Rattle.engine.specs.declared.work.Work.{Work}
use Rattle.engine.specs.Works.{written, write_means, both_writes, work_writes}

-- every disk that lives has the log of b
abbrev pub LogSame : View → List Page → Type 0
LogSame [] b = Unit {0}
LogSame (d ∷ ds) b = (d.lives ≡ true → (i : ℕ) → i < room → nth d.has (2 + i) ≡ nth b (2 + i)) × LogSame ds b

-- on the way to the first disk: the log can be read; on the way to the second: what is put is held already
abbrev pub CanDo : Work → List Page → Both → Side → WriteKind → Page → Type 0
CanDo w b d First Copied held = Unit {0}
CanDo w b d First (Journal k) held = replays w.plan ≡ true → LogSame (view d) b
CanDo w b d Second Copied held = Unit {0}
CanDo w b d Second (Journal k) held = held ≡ written w.block b (Journal k)

abbrev pub Readied : Option Both → Option Both → Work → Write → Page → Page → Bool → Type 0
Readied before after w x held held' r =
    (d : Both) → before ≡ Some d → (b : List Page) → nth b 1 ≡ w.list → CanDo w b d x.disk x.kind held →
    (e : Both) × (after ≡ Some e) × Ran [] (view d) (view e) × (r ≡ true → held' ≡ written w.block b x.kind) × (r ≡ false → one_lives e ≡ false)

-- one write done
abbrev pub Performed : Option Both → Option Both → Work → Write → Page → Page → Bool → Type 0
Performed before after w x held held' r =
    (d : Both) → before ≡ Some d → (b : List Page) → nth b 1 ≡ w.list → CanDo w b d x.disk x.kind held →
    (e : Both) × (after ≡ Some e) × Ran (write_means w.block b x ∷ []) (view d) (view e) × (r ≡ one_lives e) × (r ≡ true → held' ≡ written w.block b x.kind)

abbrev pub one_of : Option Put → List Put
one_of None = []
one_of (Some p) = p ∷ []

abbrev pub steps_of : Work → List Page → List Put
steps_of w b = plan_puts w.plan w.block b

-- the first j of the two writes of one step, and what is then held
abbrev pub Halfway : Option Both → Option Both → Work → Step → ℕ → Page → Type 0
Halfway before after w s j held =
    (d : Both) → before ≡ Some d → (b : List Page) → nth b 1 ≡ w.list → (replays w.plan ≡ true → LogSame (view d) b) →
    (e : Both) × (after ≡ Some e) × Ran (take j (on 0 (step_put w.block b s) ∷ (on 1 (step_put w.block b s) ∷ []))) (view d) (view e)
    × (j ≡ 0 → e ≡ d) × (0 < j → held ≡ content w.block b s.kind)

-- the i-th step, on both disks
abbrev pub Stepped : Option Both → Option Both → Work → ℕ → Bool → Type 0
Stepped before after w i r =
    (d : Both) → before ≡ Some d → (b : List Page) → nth b 1 ≡ w.list → (replays w.plan ≡ true → LogSame (view d) b) →
    (e : Both) × (after ≡ Some e) × Ran (mirrored copies (one_of (item (steps_of w b) i))) (view d) (view e) × (r ≡ one_lives e)

-- the first i steps
abbrev pub PutSome : Option Both → Option Both → Work → ℕ → Type 0
PutSome before after w i =
    (d : Both) → before ≡ Some d → (b : List Page) → nth b 1 ≡ w.list → (replays w.plan ≡ true → LogSame (view d) b) →
    (e : Both) × (after ≡ Some e) × Ran (mirrored copies (take i (steps_of w b))) (view d) (view e)

-- all steps
abbrev pub PutAll : Option Both → Option Both → Work → Bool → Type 0
PutAll before after w r =
    (d : Both) → before ≡ Some d → (b : List Page) → nth b 1 ≡ w.list → (replays w.plan ≡ true → LogSame (view d) b) →
    (e : Both) × (after ≡ Some e) × Ran (both_writes w b) (view d) (view e) × (r ≡ one_lives e)

-- what is copied is as it is on b
abbrev pub Copies : Option ℕ → Page → List Page → Type 0
Copies None p b = Unit {0}
Copies (Some k) p b = p ≡ nth b k

-- all that a work writes
abbrev pub Finished : Option Both → Option Both → Work → Bool → Type 0
Finished before after w r =
    (d : Both) → before ≡ Some d → (b : List Page) → nth b 1 ≡ w.list → (replays w.plan ≡ true → LogSame (view d) b) → Copies w.copy w.block b →
    (e : Both) × (after ≡ Some e) × Ran (work_writes w b) (view d) (view e) × (r ≡ one_lives e)

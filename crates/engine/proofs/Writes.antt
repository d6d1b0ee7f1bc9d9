-- The writes of a work by their number.
use Rattle.std.proofs.Common.{◌≡◌, ℕ, zero, suc, ◌+◌, ◌*◌, ◌/◌, ◌%◌, true, false, List, ◌++◌, length, is_some, Some, None, Option, sym, refl, ap, ◌∙◌, arith}
use Rattle.std.specs.List.{slice_get as item}
use Rattle.std.specs.Option.{option_map}
use Rattle.std.proofs.lemmas.Bool.{both_ways}
use Rattle.model.specs.Numbers.{copies}
use Rattle.model.specs.Book.{Page}
use Rattle.model.specs.Disks.{on}
use Rattle.mirror.proofs.Numbered.{mirrored_item, length_mirrored}
use Rattle.device.specs.Ran.{side_number}
use Rattle.journal.specs.Plans.{step_put, plan_puts}
use Rattle.journal.specs.declared.plan.Step.{Step}
use Rattle.engine.specs.declared.write.WriteKind.TheVariants.{Journal}
use Rattle.engine.specs.declared.work.Work.{Work}
use Rattle.engine.specs.Works.{side_at, write_means, copy_writes, both_writes, work_writes}

-- a write's disk, by its number
pub side_number_at : (k : ℕ) → side_number (side_at k) ≡ k % copies
side_number_at zero = refl
side_number_at (suc zero) = refl
side_number_at (suc (suc k)) =
    let m : suc (suc k) % 2 ≡ k % 2 = omega arith in
    rw m (side_number_at k)

-- a step of the plan, on the disk whose turn it is
pub step_written : (w : Work) (b : List Page) (k : ℕ) (s : Step) → Some (step_put w.block b s) ≡ item (plan_puts w.plan w.block b) (k / copies) →
    Some (write_means w.block b (record { disk = side_at k; block = s.block; kind = Journal s.kind })) ≡ item (both_writes w b) k
step_written w b k s e =
    ap (λ (n : ℕ). Some (on n (step_put w.block b s))) (side_number_at k)
    ∙ ap (option_map (on (k % copies))) e
    ∙ sym (mirrored_item (plan_puts w.plan w.block b) k)

pub none_written : (w : Work) (b : List Page) (k : ℕ) → None ≡ item (plan_puts w.plan w.block b) (k / copies) → None ≡ item (both_writes w b) k
none_written w b k e = ap (option_map (on (k % copies))) e ∙ sym (mirrored_item (plan_puts w.plan w.block b) k)

-- how many there are, with a copy and without
pub count_copied : (w : Work) (b : List Page) (n : ℕ) → n ≡ length (plan_puts w.plan w.block b) → is_some w.copy ≡ true → 2 * n + 1 ≡ length (work_writes w b)
count_copied w b n e s = go w.copy s
  where
    go : (o : Option ℕ) → is_some o ≡ true → 2 * n + 1 ≡ length (copy_writes o w.block ++ both_writes w b)
    go None t = absurd (both_ways false refl t)
    go (Some k) t = omega (arith, length_mirrored (plan_puts w.plan w.block b))

pub count_uncopied : (w : Work) (b : List Page) (n : ℕ) → n ≡ length (plan_puts w.plan w.block b) → is_some w.copy ≡ false → 2 * n ≡ length (work_writes w b)
count_uncopied w b n e s = go w.copy s
  where
    go : (o : Option ℕ) → is_some o ≡ false → 2 * n ≡ length (copy_writes o w.block ++ both_writes w b)
    go None t = omega (arith, length_mirrored (plan_puts w.plan w.block b))
    go (Some k) t = absurd (both_ways true t refl)

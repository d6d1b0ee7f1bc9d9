-- Admission in the book's words: the refusals are the book's, and an admitted call's plan puts what the
-- journal says.
use Rattle.std.proofs.Common.{◌≡◌, ℕ, Bool, true, false, cond, ◌&&◌, eqb, ltb, List, length, sym, refl}
use Rattle.model.specs.Numbers.{room}
use Rattle.layout.specs.declared.count.Count.{Count}
use Rattle.layout.specs.declared.count.Slot.{Slot}
use Rattle.model.specs.Book.{Page, call_number, good_fields, turned_by, read, write, close, size, garbled}
use Rattle.journal.specs.Journal.{holds, count, entries_from, recovery, call_puts}
use Rattle.journal.specs.Plans.{plan_puts}
use Rattle.journal.specs.declared.plan.Plan.TheVariants.{Write, Close, Replay}
use Rattle.journal.specs.Admission.{RefusalsAre}

and_true : (b : Bool) → (b && true) ≡ b
and_true true = refl
and_true false = refl

write_order : (t u v : Bool) → ◌≡◌ {A = ℕ} (cond t (cond u (cond v 0 4) 3) 2) (cond (eqb (cond t (cond u 0 3) 2) 0) (cond v 0 4) (cond t (cond u 0 3) 2))
write_order true true v = refl
write_order true false v = refl
write_order false u v = refl

read_order : (u : Bool) → ◌≡◌ {A = ℕ} (cond u 0 3) (cond (eqb (cond u 0 3) 0) 0 (cond u 0 3))
read_order true = refl
read_order false = refl

pub refusals_are : RefusalsAre
unfolding call_number good_fields turned_by
refusals_are l b (read a) k h = simp k (read_order (ltb a l.pages))
refusals_are l b (write a p) k h = simp (k, h, and_true) (write_order (eqb (length p) 1024) (ltb a l.pages) (ltb b.waiting room))
refusals_are l b close k h = simp k
refusals_are l b size k h = simp k
refusals_are l b (garbled n) k h = refl

pub write_planned : (b : List Page) (n : Slot) (page : ℕ) (given p : Page) → count b ≡ n.place → given ≡ p → plan_puts (Write n page) given b ≡ call_puts b (write page p)
unfolding call_puts
write_planned b n page given p e f = rw (sym e, f)

pub close_planned : (b : List Page) (n : Count) (p : Page) → count b ≡ n.writes → plan_puts (Close n) p b ≡ call_puts b close
unfolding call_puts
close_planned b n p e = rw (sym e)

pub replay_planned : (b : List Page) (n : Count) (p : Page) → holds b ≡ true → count b ≡ n.writes → plan_puts (Replay n) p b ≡ recovery b
replay_planned b n p h e = rw (h, sym e)

pub nothing_planned : (b : List Page) (n : Count) (p : Page) → n.writes ≡ 0 → holds b ≡ false → plan_puts (Replay n) p b ≡ recovery b
unfolding entries_from
nothing_planned b n p e h = rw (e, h)

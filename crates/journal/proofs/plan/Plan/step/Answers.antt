use Rattle.std.proofs.Common.{sym, arith}
use Rattle.journal.proofs.Steps.{blank_item, no_blank}
use Rattle.journal.proofs.plan.Plan.step.Goals as goal

pub returns-then-i-disk-clause-value : goal.returns-then-i-disk-clause-value
returns-then-i-disk-clause-value c = λ b given e. simp c.in-Make.is (sym (no_blank c.in-Make.disk.blocks c.args.i (omega arith)))

pub returns-else-i-disk-clause-value : goal.returns-else-i-disk-clause-value
returns-else-i-disk-clause-value c = λ b given e. simp c.in-Make.is (sym (blank_item c.in-Make.disk.blocks c.args.i (omega arith)))

use Rattle.std.proofs.Common.{false, [], ◌∷◌, sym, arith, length-append}
use Rattle.journal.specs.Journal.{entries_from, header_put}
use Rattle.journal.proofs.Steps.{length_entries, length_blanks}
use Rattle.journal.proofs.plan.Plan.len.Goals as goal

pub returns-in-Close-clause-value : goal.returns-in-Close-clause-value
returns-in-Close-clause-value c = λ b given. simp c.in-Close.is (omega (arith, length-append (entries_from b 0 c.in-Close.count.writes) (header_put false 0 ∷ []), length_entries b 0 c.in-Close.count.writes))

pub returns-in-Replay-clause-value : goal.returns-in-Replay-clause-value
returns-in-Replay-clause-value c = λ b given. simp c.in-Replay.is (omega (arith, length-append (entries_from b 0 c.in-Replay.count.writes) (header_put false 0 ∷ []), length_entries b 0 c.in-Replay.count.writes))

pub returns-in-Make-clause-value : goal.returns-in-Make-clause-value
returns-in-Make-clause-value c = λ b given. simp c.in-Make.is (sym (length_blanks 0 c.in-Make.disk.blocks))

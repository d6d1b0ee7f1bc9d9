-- The pages are as many as at the start.
use Rattle.std.proofs.Common.{◌≡◌}
use Rattle.explain.proofs.check.History.book.Given as goal

abbrev pub invariant-loop-event : goal.invariant-loop-event
invariant-loop-event l = l.book.count ≡ l.self.pages

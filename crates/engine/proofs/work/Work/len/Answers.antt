use Rattle.std.proofs.Common.{sym, ◌∙◌, arith}
use Rattle.engine.proofs.Writes.{count_copied, count_uncopied}
use Rattle.engine.proofs.work.Work.len.Goals as goal

pub overflow_mul-both : goal.overflow_mul-both
overflow_mul-both c = omega (arith, c.len-both.ensures.bound)

pub overflow_add-result : goal.overflow_add-result
overflow_add-result c = omega (arith, c.len-both.ensures.bound)

pub returns-then-is_some : goal.returns-then-is_some
returns-then-is_some c b = count_copied c.args.self.now b _ (c.len-both.ensures.value b c.args.self.now.block) (sym c.is_some.ensures ∙ c.if-is_some.true)

pub returns-else-is_some : goal.returns-else-is_some
returns-else-is_some c b = count_uncopied c.args.self.now b _ (c.len-both.ensures.value b c.args.self.now.block) (sym c.is_some.ensures ∙ c.if-is_some.false)

use Rattle.std.proofs.Common.{◌<◌, ◌≤◌, refl, rules}
use Rattle.std.proofs.Math.Nat.{sub-zero}
use Rattle.std.proofs.lemmas.Iterator.{cases_from_all, YieldsList-from_range}
use borrow.Author.Tests.{tests}
use Rattle.layout.specs.PageList.{listed}
use Rattle.layout.proofs.Blocks.{below_is}
use Rattle.layout.proofs.list.all_below.Goals as goal

pub returns : goal.returns
returns c =
    below_is c.args.list.now c.args.pages c.args.count.writes _
    (cases_from_all _ _ _ (λ i. listed c.args.list.now i < c.args.pages) (λ i. c.args.pages ≤ listed c.args.list.now i) c.all.ensures.ran
    (YieldsList-from_range 0 c.args.count.writes c.args.count.writes refl (sub-zero c.args.count.writes)) (λ x q k. search (rules, tests)) (λ x q k. search (rules, tests)))

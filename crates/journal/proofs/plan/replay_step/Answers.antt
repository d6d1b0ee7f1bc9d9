use Rattle.std.proofs.Common.{ℕ, ◌+◌, false, Some, sym, ap, ◌∙◌, rules}
use Rattle.model.specs.Numbers.{first_page}
use Rattle.model.specs.Book.{Page, nth}
use Rattle.layout.specs.PageList.{listed}
use Rattle.journal.specs.Journal.{header_put}
use Rattle.journal.proofs.Steps.{entry_item, last_item, past_item}
use Rattle.journal.proofs.plan.replay_step.Goals as goal

pub returns-in-Some-clause-value : goal.returns-in-Some-clause-value
returns-in-Some-clause-value c = λ b given e.
    let p = c.in-Some.ensures in
    let i = c.in-Some.slot.place in
    let page_is = c.page.ensures ∙ ap (λ (x : Page). listed x i) (sym e) in
    ap (λ (k : ℕ). Some (record { block = k; content = nth b (2 + i) })) (c.page-in-Some.ensures ∙ ap (λ (k : ℕ). first_page + k) page_is)
    ∙ sym (rw (sym p.0) (entry_item b (header_put false 0) c.args.count.writes i (rw p.0 p.1)))

pub returns-in-None-clause-value : goal.returns-in-None-clause-value
returns-in-None-clause-value c = λ b given e. sym (last_item b (header_put false 0) c.args.count.writes c.args.i (c.if-i-from.true ∙ c.from.ensures))

pub returns-in-None-2-clause-value : goal.returns-in-None-2-clause-value
returns-in-None-2-clause-value c = λ b given e. sym (past_item b (header_put false 0) c.args.count.writes c.args.i (search rules))

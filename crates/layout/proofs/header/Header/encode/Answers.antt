use Rattle.std.proofs.Common.{◌≡◌, ℕ, Bool, true, false, cond, List, set, refl, ◌∙◌}
use mir.Val.{bool_byte}
use Rattle.model.specs.Book.{many, empty_page}
use Rattle.octets.specs.Words.{le4, overwritten}
use Rattle.layout.specs.Header.{header_block}
use Rattle.layout.proofs.header.Header.encode.Goals as goal

written : (h : Bool) (n : ℕ) → overwritten (set empty_page 0 (cond h 1 0)) 1 (le4 n) ≡ header_block h n
unfolding many
written h n = refl

header_from : (xs ys : List ℕ) (flag : ℕ) (h : Bool) (n : ℕ) → xs ≡ empty_page → flag ≡ cond h 1 0 → ys ≡ overwritten (set xs 0 flag) 1 (le4 n) → ys ≡ header_block h n
header_from xs ys flag h n e f p = p ∙ rw (e, f) (written h n)

flag_is : (h : Bool) → bool_byte h ≡ cond h 1 0
flag_is true = refl
flag_is false = refl

pub returns : goal.returns
returns c = header_from c.clear.new.block c.put_u32.new.dst _ c.args.self.holds c.args.self.count c.clear.ensures (c.from.ensures ∙ flag_is c.args.self.holds) c.put_u32.ensures

-- Lists of puts on one disk: blocks are put one after the other, and a put that comes again in its turn
-- makes no difference, so that a log can be replayed after a part of it was.
use Rattle.std.proofs.Common.{◌≡◌, ◌⊎◌, List, [], ◌∷◌, ◌++◌, refl, ap, ◌∙◌, inl, inr}
use Rattle.std.proofs.lemmas.Bool.{cases_eq}
use Rattle.model.specs.Book.{Page}
use Rattle.model.specs.Plain.{Put, put, puts}
use Rattle.model.proofs.Lists.{set_set_same, set_set_other}
use Rattle.model.proofs.Safely.{steps}

-- one put is among these, and all of some are among others
abbrev pub In : Put → List Put → Type 0
In m [] = ⊥
In m (e ∷ es) = (m ≡ e) ⊎ In m es

abbrev pub Within : List Put → List Put → Type 0
Within [] es = Unit {0}
Within (m ∷ ms) es = In m es × Within ms es

within_more : (ms es : List Put) (e : Put) → Within ms es → Within ms (e ∷ es)
within_more [] es e h = tt
within_more (m ∷ ms) es e h = (inr h.0, within_more ms es e h.1)

pub within_all : (es : List Put) → Within es es
within_all [] = tt
within_all (e ∷ es) = (inl refl, within_more es es e (within_all es))

-- a put over another at the same block
put_over : (c : List Page) (m e : Put) → m.block ≡ e.block → put e (put m c) ≡ put e c
put_over c m e p = rw p (set_set_same c e.block m.content e.content)

pub puts_again : (es : List Put) (m : Put) (c : List Page) → In m es → puts es (put m c) ≡ puts es c
unfolding puts
puts_again [] m c x = elim x [ ]
puts_again (e ∷ es) m c (inl p) = ap (puts es) (put_over c m e (ap (λ (x : Put). x.block) p))
puts_again (e ∷ es) m c (inr i) = go (cases_eq m.block e.block) (puts_again es m (put e c) i)
  where
    go : (m.block ≡ e.block) ⊎ (m.block ≡ e.block → ⊥) → puts es (put m (put e c)) ≡ puts es (put e c) → puts es (put e (put m c)) ≡ puts es (put e c)
    go (inl p) ih = ap (puts es) (put_over c m e p)
    go (inr p) ih = ap (puts es) (set_set_other c m.block e.block m.content e.content p) ∙ ih

pub puts_append : (xs ys : List Put) (b : List Page) → puts (xs ++ ys) b ≡ puts ys (puts xs b)
unfolding puts
puts_append [] ys b = refl
puts_append (x ∷ xs) ys b = puts_append xs ys (put x b)

pub steps_puts : (ms : List Put) (b : List Page) → steps put ms b ≡ puts ms b
unfolding puts
steps_puts [] b = refl
steps_puts (m ∷ ms) b = steps_puts ms (put m b)

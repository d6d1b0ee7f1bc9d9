-- Of the book alone: what holds goes on holding until a close, whatever else happens, and a refused call
-- changes nothing.
use Rattle.std.proofs.Common.{◌≡◌, Bool, true, false, cond, List, ◌∷◌, refl, ◌∙◌, arith}
use Rattle.std.proofs.lemmas.Bool.{both_ways, ne_eqb, cond-false}
use Rattle.model.specs.Book.{Call, read, write, close, size, garbled, Answer, Limits, Book, turned, changed, answer, after}
use Rattle.model.specs.Disks.{Happening, was_told, was_cut}
use Rattle.model.specs.Promise.{Leads}
use Rattle.model.specs.Promise.Leads.{at_first, cut_late, cut_early, gone}
use Rattle.model.specs.Statements.{no_close, GoesOnHolding, RefusedChangesNothing}

cond_old : (t : Bool) (x b : Book) → x.old ≡ b.old → (cond t x b).old ≡ b.old
cond_old true x b e = e
cond_old false x b e = refl

told_quiet : (l : Limits) (b : Book) (a : Answer) (hs : List Happening) (c : Call) → no_close (was_told c a ∷ hs) ≡ true → (no_close hs ≡ true) × ((after l b c).old ≡ b.old)
unfolding no_close changed
told_quiet l b a hs (read x) e = (e, cond_old _ (changed b (read x)) b refl)
told_quiet l b a hs (write x p) e = (e, cond_old _ (changed b (write x p)) b refl)
told_quiet l b a hs close e = absurd (both_ways false refl e)
told_quiet l b a hs size e = (e, cond_old _ (changed b size) b refl)
told_quiet l b a hs (garbled n) e = (e, cond_old _ (changed b (garbled n)) b refl)

cut_quiet : (l : Limits) (b : Book) (hs : List Happening) (c : Call) → no_close (was_cut c ∷ hs) ≡ true → (no_close hs ≡ true) × ((after l b c).old ≡ b.old)
unfolding no_close changed
cut_quiet l b hs (read x) e = (e, cond_old _ (changed b (read x)) b refl)
cut_quiet l b hs (write x p) e = (e, cond_old _ (changed b (write x p)) b refl)
cut_quiet l b hs close e = absurd (both_ways false refl e)
cut_quiet l b hs size e = (e, cond_old _ (changed b size) b refl)
cut_quiet l b hs (garbled n) e = (e, cond_old _ (changed b (garbled n)) b refl)

holding : (l : Limits) (o : Book) {hs : List Happening} {b : Book} → Leads l o hs b → no_close hs ≡ true → b.old ≡ o.old
unfolding no_close
holding l o at_first e = refl
holding l o (Leads.told {hs} {b} c r) e = let h = told_quiet l b (answer l b c) hs c e in h.1 ∙ holding l o r h.0
holding l o (cut_late {hs} {b} c r) e = let h = cut_quiet l b hs c e in h.1 ∙ holding l o r h.0
holding l o (cut_early {hs} {b} c r) e = let h = cut_quiet l b hs c e in holding l o r h.0
holding l o (gone r) e = holding l o r e

pub goes_on_holding : GoesOnHolding
unfolding GoesOnHolding
goes_on_holding l o b hs r e = holding l o r e

pub refused_changes_nothing : RefusedChangesNothing
unfolding RefusedChangesNothing
refused_changes_nothing l b c h = cond-false _ (changed b c) b (ne_eqb (turned l b c) 0 (λ e. omega arith))

-- How many puts a call and a recovery are, whatever the disk holds; a refused call puts nothing.
use Rattle.std.proofs.Common.{◌≡◌, ℕ, suc, ◌+◌, ◌≤◌, Bool, true, false, cond, eqb, List, [], ◌∷◌, ◌++◌, length, sym, refl, ap, ◌∙◌, arith, length-append}
use Rattle.std.proofs.lemmas.Bool.{cond-true, cond-false}
use Rattle.model.specs.Numbers.{room}
use Rattle.model.specs.Book.{Page, nth, Call, read, write, close, size, garbled, refused, Limits, Book, turned, told, answer}
use Rattle.layout.proofs.Blocks.{log_count_few}
use Rattle.journal.specs.Journal.{pages_of, holds, count, entries, header_put, recovery, call_puts, book_of, puts_of}
use Rattle.journal.proofs.Steps.{length_entries}

pub count_few_always : (b : List Page) → count b ≤ room
count_few_always b = log_count_few (nth b 0) (nth b 1) (pages_of b)

not_refused : (l : Limits) (b : Book) (c : Call) (j k : ℕ) → told l b c ≡ refused j k → ⊥
unfolding told
not_refused l b (read a) j k e = let z : ◌≡◌ {A = ℕ} 0 1 = cc in omega arith
not_refused l b (write a p) j k e = let z : ◌≡◌ {A = ℕ} 0 1 = cc in omega arith
not_refused l b close j k e = let z : ◌≡◌ {A = ℕ} 0 1 = cc in omega arith
not_refused l b size j k e = let z : ◌≡◌ {A = ℕ} 0 1 = cc in omega arith
not_refused l b (garbled n) j k e = let z : ◌≡◌ {A = ℕ} 0 1 = cc in omega arith

pub refused_puts_nothing : (l : Limits) (b : List Page) (c : Call) (j k : ℕ) → answer l (book_of b) c ≡ refused j k → puts_of l b c ≡ []
refused_puts_nothing l b c j k e = go (eqb (turned l (book_of b) c) 0) refl
  where
    go : (t : Bool) → eqb (turned l (book_of b) c) 0 ≡ t → puts_of l b c ≡ []
    go true h = absurd (not_refused l (book_of b) c j k (sym (cond-true _ (told l (book_of b) c) _ h) ∙ e))
    go false h = cond-false _ (call_puts b c) [] h

-- a write puts 3 blocks, a close 2 and one for each write in the log
pub length_write : (b : List Page) (a : ℕ) (p : Page) → length (call_puts b (write a p)) ≡ 3
unfolding call_puts
length_write b a p = refl

pub length_close : (b : List Page) → length (call_puts b close) ≡ 2 + count b
unfolding call_puts
length_close b = ap suc (length-append (entries b) (header_put false 0 ∷ []) ∙ ap (λ n. n + 1) (length_entries b 0 (count b))) ∙ omega arith

-- recovery puts the header, and before it each write of a log that holds
pub length_recovery : (b : List Page) → length (recovery b) ≡ cond (holds b) (count b + 1) 1
length_recovery b = go (holds b)
  where
    go : (t : Bool) → length (cond t (entries b) [] ++ (header_put false 0 ∷ [])) ≡ cond t (count b + 1) 1
    go true = length-append (entries b) (header_put false 0 ∷ []) ∙ ap (λ n. n + 1) (length_entries b 0 (count b))
    go false = refl

-- Making a new disk: whatever it had, every block is empty afterwards.
use Rattle.std.proofs.Common.{◌≡◌, ℕ, zero, suc, List, [], ◌∷◌, length, refl, ap, ◌∙◌, arith}
use Rattle.model.specs.Book.{Page, empty_page, many, set_page}
use Rattle.model.specs.Plain.{puts}
use Rattle.journal.specs.Journal.{blank_puts}

blank_rest : (k i : ℕ) (x : Page) (xs : List Page) → puts (blank_puts (suc i) k) (x ∷ xs) ≡ x ∷ puts (blank_puts i k) xs
unfolding puts blank_puts set_page
blank_rest zero i x xs = refl
blank_rest (suc k) i x xs = blank_rest k (suc i) x (set_page xs i empty_page)

pub blanked : (k : ℕ) (b : List Page) → length b ≡ k → puts (blank_puts 0 k) b ≡ many k empty_page
unfolding puts blank_puts set_page many
blanked zero [] e = refl
blanked zero (x ∷ b) e = absurd (omega arith)
blanked (suc k) [] e = absurd (omega arith)
blanked (suc k) (x ∷ b) e = blank_rest k 0 empty_page b ∙ ap (λ c. empty_page ∷ c) (blanked k b (omega arith))

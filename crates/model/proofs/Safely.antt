-- A plan that is safe to stop anywhere: P holds of the state before each item and after the last, G holds
-- of each item in the state in which it is written, and Q holds when all are written. The journal shows
-- its plans to be such, on one disk; the mirror takes such plans to several.
use Rattle.std.proofs.Common.{List, [], ◌∷◌}

abbrev pub Safely : {S I : Type 0} → (I → S → S) → (S → I → Type 0) → (S → Type 0) → (S → Type 0) → S → List I → Type 0
Safely step G P Q s [] = P s × Q s
Safely step G P Q s (x ∷ xs) = P s × G s x × Safely step G P Q (step x s) xs

pub safe_here : {S I : Type 0} (step : I → S → S) (G : S → I → Type 0) (P Q : S → Type 0) (s : S) (xs : List I) → Safely step G P Q s xs → P s
safe_here step G P Q s [] h = h.0
safe_here step G P Q s (x ∷ xs) h = h.0

-- the state when all items of a list are written
abbrev pub steps : {S I : Type 0} → (I → S → S) → List I → S → S
steps step [] s = s
steps step (x ∷ xs) s = steps step xs (step x s)

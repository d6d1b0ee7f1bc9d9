-- What was read of a stream whose bytes are known.
use Rattle.std.proofs.Common.{◌≡◌, ℕ, ◌≤◌, List, [], ◌∷◌, ◌++◌, length, take, Some, None, Option, sym, ◌∙◌, ap, subst, append_assoc, append-nil, length-append, arith}
use Rattle.std.proofs.lemmas.List.{take_all}
use borrow.Rule.Slice.PartMut.{put_mid}
use Rattle.std.specs.Io.KnownBytes.{Consumes}
use Rattle.octets.specs.Words.{num4}
use Rattle.frames.specs.Framed.{LengthRead}

-- one part read after the other
chained : (before between after : Option (List ℕ)) (xs ys : List ℕ) → Consumes before between xs → Consumes between after ys → Consumes before after (xs ++ ys)
chained None between after xs ys h g = tt
chained (Some _) None after xs ys h g = elim h [ ]
chained (Some _) (Some _) None xs ys h g = elim g [ ]
chained (Some _) (Some _) (Some zs) xs ys h g = h ∙ (ap (λ l. xs ++ l) g ∙ sym (append_assoc xs ys zs))

-- a byte, and three more put behind it
whole : (low rest : List ℕ) → length low ≡ 1 → length rest ≡ 3 → put_mid 1 3 (low ++ (0 ∷ (0 ∷ (0 ∷ [])))) rest ≡ low ++ rest
whole [] rest l r = absurd (omega arith)
whole (a ∷ []) rest l r = ap (λ xs. a ∷ xs) (append-nil rest)
whole (a ∷ (b ∷ t)) rest l r = absurd (omega arith)

pub length_read : (before between after : Option (List ℕ)) (low rest : List ℕ) (k n : ℕ) → length low ≡ 1 → length rest ≡ 3 → k ≤ length low → (k ≡ 0 → ⊥) → Consumes before between (take k low) → Consumes between after rest →
    n ≡ num4 (put_mid 1 3 (low ++ (0 ∷ (0 ∷ (0 ∷ [])))) rest) 0 → LengthRead before after (Some n)
length_read before between after low rest k n l r h z f g e =
    (low ++ rest, (omega (arith, length-append low rest), sym (e ∙ ap (λ xs. num4 xs 0) (whole low rest l r))), chained before between after low rest (subst (λ xs. Consumes before between xs) (take_all k low (omega arith)) f) g)

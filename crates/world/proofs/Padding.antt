-- A call at the front of zeros.
use Rattle.std.proofs.Common.{◌≡◌, ℕ, ◌-◌, ◌≤◌, List, ◌++◌, length, take, replicate, sym, ap, ◌∙◌, take_at}
use Rattle.world.specs.Padded.{padded}

pub padded_on : (call front rest : List ℕ) → length call ≤ 1030 → front ≡ call → rest ≡ replicate (1030 - length call) 0 →
    (length call ≤ 1030) × (length (take (length call) (front ++ rest)) ≡ length call) × (padded (take (length call) (front ++ rest)) ≡ front ++ rest)
padded_on call front rest short is zeros =
    let same : take (length call) (front ++ rest) ≡ call = take_at front rest (length call) (ap length is) ∙ is in
    (short, ap length same, ap padded same ∙ ap (λ (x : List ℕ). call ++ x) (sym zeros) ∙ ap (λ (x : List ℕ). x ++ rest) (sym is))

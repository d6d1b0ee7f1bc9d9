-- What a step does to what is asked and to what happened. Definitions only.
use Rattle.std.specs.Prelude.{◌≡◌, ℕ, List, [], ◌∷◌, ◌++◌, Some, None, Option}
use Rattle.world.specs.declared.history.Under.{Under}
use Rattle.world.specs.declared.history.Event.{Event}
use Rattle.world.specs.declared.history.Event.TheVariants.{Answered, Cut, Power}

-- this call is under way
abbrev pub Asks : Option Under → List ℕ → Type 0
Asks None a = ⊥
Asks (Some u) a = u.call ≡ a

-- the call under way was answered, and that is what happened last
abbrev pub Tells : Option Under → List Event → List Event → Type 0
Tells None before after = ⊥
Tells (Some u) before after = after ≡ before ++ (Answered u.call u.answer ∷ [])

-- power went, and that is what happened last
abbrev pub Cuts : Option Under → List Event → List Event → Type 0
Cuts None before after = after ≡ before ++ (Power ∷ [])
Cuts (Some u) before after = after ≡ before ++ (Cut u.call ∷ [])

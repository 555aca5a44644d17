-- Numbers that are still to come.
use Rattle.std.specs.Prelude.{◌≡◌, ℕ, ◌<◌, List, [], ◌∷◌, length, slice_index}
use Rattle.family.specs.Orbits.{orbit}
use Rattle.family.specs.declared.orbit.Orbit.{Orbit}

-- the next one, and those that its maker makes from it, so many in all; `stepped` tells what a maker makes from a number
abbrev pub left_of : {S : Type 0} → (S → ℕ → ℕ) → Orbit S → List ℕ
left_of stepped o = orbit (stepped o.maker.now) o.left o.next

-- a number after the first is the first again
abbrev pub FirstAgain : List ℕ → Type 0
FirstAgain [] = ⊥
FirstAgain (x ∷ xs) = (i : ℕ) × (i < length xs) × (slice_index xs i ≡ x)

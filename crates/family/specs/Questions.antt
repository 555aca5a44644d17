-- A call that can refuse asks its questions in order, and the first no is the refusal.
use Rattle.std.specs.Prelude.{◌≡◌, ℕ, ◌⊎◌, List, [], ◌∷◌, Ok, Err, Result}

-- what is asked, and the number of the refusal where it does not hold
pub record Question : Type 1 where
  pub asked : Type 0
  pub number : ℕ

abbrev pub asks : Type 0 → ℕ → Question
asks fact n = record { asked = fact; number = n }

-- every answer is yes
abbrev pub AllYes : List Question → Type 0
AllYes [] = Unit {0}
AllYes (q ∷ qs) = q.asked × AllYes qs

-- the first question whose answer is no has this number
abbrev pub FirstNo : List Question → ℕ → Type 0
FirstNo [] n = ⊥
FirstNo (q ∷ qs) n = ((q.asked → ⊥) × (n ≡ q.number)) ⊎ (q.asked × FirstNo qs n)

-- A call that asks these questions: it answers a value of which P holds where all answers are yes, and otherwise
-- refuses with the number of the first no. `number` tells the number of each refusal.
abbrev pub Asked : {X E : Type 0} → List Question → (E → ℕ) → (X → Type 0) → Result X E → Type 0
Asked qs number P (Ok x) = AllYes qs × P x
Asked qs number P (Err e) = FirstNo qs (number e)

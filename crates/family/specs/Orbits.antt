-- Columns that are made one from another.
use Rattle.std.specs.Prelude.{ℕ, zero, suc, List, [], ◌∷◌}

-- f applied k times
abbrev pub iterate : (ℕ → ℕ) → ℕ → ℕ → ℕ
iterate f zero a = a
iterate f (suc k) a = iterate f k (f a)

-- a, f a, f (f a) and so on: m of them
abbrev pub orbit : (ℕ → ℕ) → ℕ → ℕ → List ℕ
orbit f zero a = []
orbit f (suc m) a = a ∷ orbit f m (f a)

-- Lists of questions, one after the other.
use Rattle.std.proofs.Common.{ℕ, List, [], ◌∷◌, ◌++◌, inl, inr, ⊎_elim}
use Rattle.family.specs.Questions.{Question, AllYes, FirstNo}

pub yes_append : (ps qs : List Question) → AllYes ps → AllYes qs → AllYes (ps ++ qs)
yes_append [] qs yp yq = yq
yes_append (p ∷ ps) qs yp yq = (yp.0, yes_append ps qs yp.1 yq)

-- a no among the first is the first no
pub no_early : (ps qs : List Question) (n : ℕ) → FirstNo ps n → FirstNo (ps ++ qs) n
no_early [] qs n f = absurd f
no_early (p ∷ ps) qs n f = ⊎_elim inl (λ later. inr (later.0, no_early ps qs n later.1)) f

-- where all of the first are yes, the first no is that of the rest
pub no_late : (ps qs : List Question) (n : ℕ) → AllYes ps → FirstNo qs n → FirstNo (ps ++ qs) n
no_late [] qs n y f = f
no_late (p ∷ ps) qs n y f = inr (y.0, no_late ps qs n y.1 f)

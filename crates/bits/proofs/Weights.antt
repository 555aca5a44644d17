-- How many ones a run of bits has, and where a single one stands.
use Rattle.std.proofs.Common.{◌≡◌, ℕ, zero, suc, ◌+◌, ◌*◌, ◌%◌, ◌^◌, ◌<◌, ◌≤◌, Bool, true, false, cond, not, eqb, List, [], ◌∷◌, ◌++◌, length, get_or, sym, refl, ap, ◌∙◌, le_of_suc-le-suc, add-zero, zero-add, arith}
use native.Mathlib.Nat.{zero-div}
use Rattle.std.proofs.lemmas.Nat.{pow_pos}
use Rattle.std.proofs.lemmas.Bool.{true≢false}
use Rattle.bits.specs.Bits.{bits_of, weight, toggle}
use Rattle.bits.proofs.Runs.{bits_of-low}

pub weight-append : (xs ys : List Bool) → weight (xs ++ ys) ≡ weight xs + weight ys
weight-append [] ys = sym (zero-add (weight ys))
weight-append (x ∷ xs) ys = let h = weight-append xs ys in omega arith

one_apart : (x : Bool) → (cond (not x) 1 0 ≤ cond x 1 0 + 1) × (cond x 1 0 ≤ cond (not x) 1 0 + 1)
one_apart true = (omega arith, omega arith)
one_apart false = (omega arith, omega arith)

-- turning a bit over changes the weight by one at most
pub weight-toggle : (xs : List Bool) (i : ℕ) → (weight (toggle xs i) ≤ weight xs + 1) × (weight xs ≤ weight (toggle xs i) + 1)
weight-toggle [] i = (omega arith, omega arith)
weight-toggle (x ∷ xs) zero = let h = one_apart x in (omega arith, omega arith)
weight-toggle (x ∷ xs) (suc i) = let h = weight-toggle xs i in (omega arith, omega arith)

pub none_at : (xs : List Bool) (i : ℕ) → weight xs ≡ 0 → get_or xs i false ≡ false
none_at [] i e = refl
none_at (true ∷ xs) i e = absurd (omega arith)
none_at (false ∷ xs) zero e = refl
none_at (false ∷ xs) (suc i) e = none_at xs i (omega arith)

-- where turning over place i leaves no ones, there is a one at i, and no other
pub one_here : (xs : List Bool) (i : ℕ) → i < length xs → weight (toggle xs i) ≡ 0 → get_or xs i false ≡ true
one_here [] i h e = absurd (omega arith)
one_here (true ∷ xs) zero h e = refl
one_here (false ∷ xs) zero h e = absurd (omega arith)
one_here (true ∷ xs) (suc i) h e = absurd (omega arith)
one_here (false ∷ xs) (suc i) h e = one_here xs i (le_of_suc-le-suc h) (omega arith)

pub no_other : (xs : List Bool) (i j : ℕ) → weight (toggle xs i) ≡ 0 → get_or xs j false ≡ true → j ≡ i
no_other [] i j e h = absurd (true≢false (sym h))
no_other (true ∷ xs) zero zero e h = refl
no_other (false ∷ xs) zero zero e h = refl
no_other (x ∷ xs) zero (suc j) e h = absurd (true≢false (sym h ∙ none_at xs j (omega arith)))
no_other (true ∷ xs) (suc i) j e h = absurd (omega arith)
no_other (false ∷ xs) (suc i) zero e h = absurd (true≢false (sym h))
no_other (false ∷ xs) (suc i) (suc j) e h = ap suc (no_other xs i j (omega arith) h)

-- a single one has a place
pub one_place : (xs : List Bool) → weight xs ≡ 1 → (i : ℕ) × (i < length xs) × (weight (toggle xs i) ≡ 0)
one_place [] e = absurd (omega arith)
one_place (true ∷ xs) e = (0, omega arith, omega arith)
one_place (false ∷ xs) e = let (i, h, k) = one_place xs (omega arith) in (suc i, omega arith, omega arith)

-- zero has no ones, nor have the places that a shift leaves
pub weight-zero : (n : ℕ) → weight (bits_of n 0) ≡ 0
unfolding bits_of
weight-zero zero = refl
weight-zero (suc k) =
    ap (λ (q : ℕ). cond (eqb (q % 2) 1) 1 0 + weight (bits_of k 0)) (zero-div (2 ^ k)) ∙ omega (arith, weight-zero k)

pub weight-shifted : (n x : ℕ) → weight (bits_of n (x * 2 ^ n)) ≡ 0
weight-shifted n x =
    ap (λ (y : ℕ). weight (bits_of n y)) (sym (add-zero (x * 2 ^ n))) ∙ ap weight (bits_of-low n x 0 (pow_pos n)) ∙ weight-zero n

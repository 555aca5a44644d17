-- The law of distance 4, from separate columns each of which has an odd number of ones.
use Rattle.std.proofs.Common.{◌≡◌, ℕ, zero, suc, ◌%◌, ◌^◌, ◌<◌, ◌≤◌, Bool, true, false, ◌≢◌, List, [], ◌∷◌, ◌++◌, length, ap, ◌∙◌, subst, inr, ⊎_elim, arith, length-append}
use lib.Count.{ones}
use Rattle.std.specs.List.{AllByRecursion}
use Rattle.std.proofs.ByRecursion.{All-append}
use Rattle.std.proofs.lemmas.Bool.{cases_lt}
use Rattle.bits.specs.Bits.{weight}
use Rattle.bits.specs.Columns.{picked, units}
use Rattle.bits.proofs.UnitColumns.{length-units, ones_power}
use Rattle.bits.proofs.Xors.{ones_xor, ones_zero}
use Rattle.family.specs.Meaning.{Meaning, Law, Lawful, Separate, longest_reach}
use Rattle.family.proofs.Laws.{separate-law}

-- each column has an odd number of ones
abbrev pub Odd : List ℕ → Type 0
Odd = AllByRecursion (λ c. ones c % 2 ≡ 1)

pub odd_units : (n : ℕ) → Odd (units n)
odd_units zero = tt
odd_units (suc k) = (ap (λ x. x % 2) (ones_power k), odd_units k)

-- the ones of a choice of odd columns are as odd as the number of columns that are chosen
pub picked-parity : (bs : List Bool) (cs : List ℕ) → length bs ≡ length cs → Odd cs → ones (picked bs cs) % 2 ≡ weight bs % 2
picked-parity [] cs l o = ap (λ n. n % 2) ones_zero
picked-parity (b ∷ bs) [] l o = absurd (omega arith)
picked-parity (true ∷ bs) (c ∷ cs) l o = omega (arith, ones_xor c (picked bs cs), picked-parity bs cs (omega arith) o.1, o.0)
picked-parity (false ∷ bs) (c ∷ cs) l o = picked-parity bs cs (omega arith) o.1 ∙ omega arith

-- where no choice of one or two odd columns has ⊕ zero, no choice of three has
pub odd_law : (cs : List ℕ) → Odd cs
    → ((choice : List Bool) → length choice ≡ length cs → 1 ≤ weight choice → weight choice < 3 → picked choice cs ≢ 0)
    → (choice : List Bool) → length choice ≡ length cs → 1 ≤ weight choice → weight choice < 4 → picked choice cs ≢ 0
odd_law cs odd law choice l low high z =
    ⊎_elim
    (λ few. law choice l low few z)
    (λ more. omega (arith, ap ones z, ones_zero, picked-parity choice cs l odd))
    (cases_lt (weight choice) 3)

-- what a family of distance 4 has to show: what one of distance 3 has, and that its columns are odd
module _ (k : Meaning) (distance : k.distance ≡ 4) (count : (m : ℕ) → 1 ≤ m → m ≤ k.reach → length (k.columns m) ≡ m)
    (separate : (m : ℕ) → 1 ≤ m → m ≤ k.reach → Separate (k.columns m ++ units k.width))
    (odd : (m : ℕ) → 1 ≤ m → m ≤ k.reach → Odd (k.columns m)) where
  pub law_at_4 : (m : ℕ) → 1 ≤ m → m ≤ k.reach → Law k m
  law_at_4 m low high choice l some few =
      let cs = k.columns m ++ units k.width in
      odd_law cs (All-append (λ c. ones c % 2 ≡ 1) (k.columns m) (units k.width) (odd m low high) (odd_units k.width))
      (separate-law cs (separate m low high)) choice
      (l ∙ omega (arith, length-append (k.columns m) (units k.width), count m low high, length-units k.width))
      some (subst (λ d. weight choice < d) distance few)

  pub lawful_at_4 : 3 ≤ k.width → k.width ≤ 64 → 1 ≤ k.reach → k.reach ≤ longest_reach
      → ((m : ℕ) → 1 ≤ m → m ≤ k.reach → AllByRecursion (λ c. c < 2 ^ k.width) (k.columns m)) → Lawful k
  lawful_at_4 wide narrow some_reach near below =
      record { wide = wide; narrow = narrow; some_reach = some_reach; near = near; tells = inr distance; count = count; below = below; law = law_at_4 }

-- What the law says of single columns and of pairs of them: they are separate.
use Rattle.std.proofs.Common.{◌≡◌, ℕ, zero, suc, ◌+◌, ◌<◌, ◌≤◌, Bool, true, false, List, [], ◌∷◌, ◌++◌, length, get_or, replicate, refl, ap, ◌∙◌, ⊎_elim, arith, length-append}
use lib.Bits.{bit_xor, xor_self, xor_zero_r, xor_zero_l}
use Rattle.std.proofs.lemmas.List.{length-replicate}
use Rattle.bits.specs.Bits.{weight}
use Rattle.bits.specs.Columns.{picked, units}
use Rattle.bits.proofs.Picks.{picked_none}
use Rattle.bits.proofs.UnitColumns.{length-units}
use Rattle.family.specs.Meaning.{Meaning, Lawful, Separate}

weight-none : (n : ℕ) → weight (replicate n false) ≡ 0
weight-none zero = refl
weight-none (suc n) = omega (arith, weight-none n)

-- the choice of place i alone
choice_of_one : (cs : List ℕ) (i : ℕ) → i < length cs
    → (bs : List Bool) × (length bs ≡ length cs) × (weight bs ≡ 1) × (picked bs cs ≡ get_or cs i 0)
choice_of_one [] i h = absurd (omega arith)
choice_of_one (c ∷ cs) zero h =
    let none = replicate (length cs) false in (
      true ∷ none,
      ap suc (length-replicate (length cs) false),
      omega (arith, weight-none (length cs)),
      ap (bit_xor c) (picked_none none cs (weight-none (length cs))) ∙ xor_zero_r c,
    )
choice_of_one (c ∷ cs) (suc i) h =
    let r = choice_of_one cs i (omega arith) in (false ∷ r.0, ap suc r.1, omega (arith, r.2), xor_zero_l (picked r.0 cs) ∙ r.3)

-- the choice of places i and j
choice_of_two : (cs : List ℕ) (i j : ℕ) → i < j → j < length cs
    → (bs : List Bool) × (length bs ≡ length cs) × (weight bs ≡ 2) × (picked bs cs ≡ bit_xor (get_or cs i 0) (get_or cs j 0))
choice_of_two [] i j l h = absurd (omega arith)
choice_of_two (c ∷ cs) i zero l h = absurd (omega arith)
choice_of_two (c ∷ cs) zero (suc j) l h =
    let r = choice_of_one cs j (omega arith) in (true ∷ r.0, ap suc r.1, omega (arith, r.2), ap (bit_xor c) r.3)
choice_of_two (c ∷ cs) (suc i) (suc j) l h =
    let r = choice_of_two cs i j (omega arith) (omega arith) in
    (false ∷ r.0, ap suc r.1, omega (arith, r.2), xor_zero_l (picked r.0 cs) ∙ r.3)

-- the columns and unit columns of every lawful key are separate
pub lawful_separate : (k : Meaning) → Lawful k → (m : ℕ) → 1 ≤ m → m ≤ k.reach → Separate (k.columns m ++ units k.width)
lawful_separate k lawful m low high =
    let cs = k.columns m ++ units k.width in
    let law = lawful.law m low high in
    let far : 3 ≤ k.distance = ⊎_elim (λ e. omega arith) (λ e. omega arith) lawful.tells in
    let long : length cs ≡ m + k.width = length-append (k.columns m) (units k.width) ∙ omega (arith, lawful.count m low high, length-units k.width) in (
      (λ i h e. let r = choice_of_one cs i h in law r.0 (r.1 ∙ long) (omega (arith, r.2)) (omega (arith, r.2)) (r.3 ∙ e)),
      (λ i j ij h e.
          let r = choice_of_two cs i j ij h in
          law r.0 (r.1 ∙ long) (omega (arith, r.2)) (omega (arith, r.2)) (r.3 ∙ ap (λ x. bit_xor x (get_or cs j 0)) e ∙ xor_self (get_or cs j 0))),
    )

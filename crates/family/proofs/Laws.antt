-- The law of distance 3, from columns that are separate.
use Rattle.std.proofs.Common.{◌≡◌, ℕ, zero, suc, ◌^◌, ◌<◌, ◌≤◌, Bool, ◌≢◌, ◌⊎◌, List, ◌++◌, length, sym, refl, ◌∙◌, subst, inl, inr, ⊎_elim, arith, length-append}
use Rattle.std.specs.List.{AllByRecursion}
use Rattle.bits.specs.Bits.{weight}
use Rattle.bits.specs.Columns.{picked, units}
use Rattle.bits.proofs.Picks.{picked-one, picked-two}
use Rattle.bits.proofs.UnitColumns.{length-units}
use Rattle.bits.proofs.Xors.{same_from_xor}
use Rattle.family.specs.Meaning.{Meaning, Law, Lawful, Separate, longest_reach}

one_or_two : (n : ℕ) → 1 ≤ n → n < 3 → (n ≡ 1) ⊎ (n ≡ 2)
one_or_two zero p q = absurd (omega arith)
one_or_two (suc zero) p q = inl refl
one_or_two (suc (suc zero)) p q = inr refl
one_or_two (suc (suc (suc n))) p q = absurd (omega arith)

-- no choice of one or two of separate columns has ⊕ zero
pub separate-law : (cs : List ℕ) → Separate cs → (choice : List Bool) → length choice ≡ length cs → 1 ≤ weight choice → weight choice < 3 → picked choice cs ≢ 0
separate-law cs s choice l low high z =
    ⊎_elim
    (λ e. let r = picked-one choice cs l e in s.0 r.0 r.1 (sym r.2 ∙ z))
    (λ e. let r = picked-two choice cs l e in s.1 r.0 r.1 r.2 r.3 (same_from_xor _ _ (sym r.4 ∙ z)))
    (one_or_two (weight choice) low high)

-- what a family of distance 3 has to show
module _ (k : Meaning) (distance : k.distance ≡ 3) (count : (m : ℕ) → 1 ≤ m → m ≤ k.reach → length (k.columns m) ≡ m)
    (separate : (m : ℕ) → 1 ≤ m → m ≤ k.reach → Separate (k.columns m ++ units k.width)) where
  pub law_at_3 : (m : ℕ) → 1 ≤ m → m ≤ k.reach → Law k m
  law_at_3 m low high choice l some few =
      separate-law (k.columns m ++ units k.width) (separate m low high) choice
      (l ∙ omega (arith, length-append (k.columns m) (units k.width), count m low high, length-units k.width))
      some (subst (λ d. weight choice < d) distance few)

  pub lawful_at_3 : 3 ≤ k.width → k.width ≤ 64 → 1 ≤ k.reach → k.reach ≤ longest_reach
      → ((m : ℕ) → 1 ≤ m → m ≤ k.reach → AllByRecursion (λ c. c < 2 ^ k.width) (k.columns m)) → Lawful k
  lawful_at_3 wide narrow some_reach near below =
      record { wide = wide; narrow = narrow; some_reach = some_reach; near = near; tells = inl distance; count = count; below = below; law = law_at_3 }

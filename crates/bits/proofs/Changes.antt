-- Where two runs of bits differ.
use Rattle.std.proofs.Common.{◌≡◌, ℕ, zero, suc, Bool, true, false, not, List, [], ◌∷◌, ◌++◌, length, sym, refl, ap, ◌∙◌, arith}
use native.Mathlib.Nat.{suc_inj}
use Rattle.bits.specs.Bits.{weight, toggle}
use Rattle.bits.specs.Changes.{differ, changes}
use Rattle.bits.proofs.Picks.{length-toggle}

pub length-changes : (xs ys : List Bool) → length xs ≡ length ys → length (changes xs ys) ≡ length xs
length-changes [] ys e = refl
length-changes (x ∷ xs) [] e = absurd (omega arith)
length-changes (x ∷ xs) (y ∷ ys) e = ap suc (length-changes xs ys (suc_inj e))

pub changes-append : (xs xs' ys ys' : List Bool) → length xs ≡ length ys → changes (xs ++ xs') (ys ++ ys') ≡ changes xs ys ++ changes xs' ys'
changes-append [] xs' [] ys' e = refl
changes-append [] xs' (y ∷ ys) ys' e = absurd (omega arith)
changes-append (x ∷ xs) xs' [] ys' e = absurd (omega arith)
changes-append (x ∷ xs) xs' (y ∷ ys) ys' e = ap (λ (r : List Bool). differ x y ∷ r) (changes-append xs xs' ys ys' (suc_inj e))

pub changes-self : (xs : List Bool) → weight (changes xs xs) ≡ 0
changes-self [] = refl
changes-self (true ∷ xs) = let h = changes-self xs in omega arith
changes-self (false ∷ xs) = let h = changes-self xs in omega arith

-- runs that nowhere differ are equal
pub same_from_changes : (xs ys : List Bool) → length xs ≡ length ys → weight (changes xs ys) ≡ 0 → xs ≡ ys
same_from_changes [] [] e h = refl
same_from_changes [] (y ∷ ys) e h = absurd (omega arith)
same_from_changes (x ∷ xs) [] e h = absurd (omega arith)
same_from_changes (true ∷ xs) (true ∷ ys) e h = ap (λ (r : List Bool). true ∷ r) (same_from_changes xs ys (suc_inj e) (omega arith))
same_from_changes (true ∷ xs) (false ∷ ys) e h = absurd (omega arith)
same_from_changes (false ∷ xs) (true ∷ ys) e h = absurd (omega arith)
same_from_changes (false ∷ xs) (false ∷ ys) e h = ap (λ (r : List Bool). false ∷ r) (same_from_changes xs ys (suc_inj e) (omega arith))

differ-not : (x y : Bool) → not (differ x y) ≡ differ x (not y)
differ-not true true = refl
differ-not true false = refl
differ-not false y = refl

changes-toggle : (xs ys : List Bool) (i : ℕ) → length xs ≡ length ys → toggle (changes xs ys) i ≡ changes xs (toggle ys i)
changes-toggle [] ys i e = refl
changes-toggle (x ∷ xs) [] i e = absurd (omega arith)
changes-toggle (x ∷ xs) (y ∷ ys) zero e = ap (λ (b : Bool). b ∷ changes xs ys) (differ-not x y)
changes-toggle (x ∷ xs) (y ∷ ys) (suc i) e = ap (λ (r : List Bool). differ x y ∷ r) (changes-toggle xs ys i (suc_inj e))

-- where the single change is at i, turning i over gives back what was there
pub put_back : (xs ys : List Bool) (i : ℕ) → length xs ≡ length ys → weight (toggle (changes xs ys) i) ≡ 0 → toggle ys i ≡ xs
put_back xs ys i e h =
    sym (same_from_changes xs (toggle ys i) (e ∙ sym (length-toggle ys i)) (ap weight (sym (changes-toggle xs ys i e)) ∙ h))

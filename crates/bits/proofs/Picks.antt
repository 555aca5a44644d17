-- What bits pick of columns.
use Rattle.std.proofs.Common.{◌≡◌, ℕ, zero, suc, ◌^◌, ◌<◌, Bool, true, false, cond, not, List, [], ◌∷◌, length, get_or, sym, refl, ap, ◌∙◌, le_of_suc-le-suc, arith}
use lib.Bits.{bit_xor, xor_assoc, xor_comm, xor_self, xor_zero_r, xor_lt}
use Rattle.std.specs.List.{AllByRecursion}
use Rattle.std.proofs.lemmas.Nat.{pow_pos}
use Rattle.bits.specs.Bits.{weight, toggle}
use Rattle.bits.specs.Columns.{picked}

pub picked-nil : (bs : List Bool) → picked bs [] ≡ 0
picked-nil [] = refl
picked-nil (b ∷ bs) = refl

-- a choice of none
pub picked_none : (bs : List Bool) (cs : List ℕ) → weight bs ≡ 0 → picked bs cs ≡ 0
picked_none [] cs e = refl
picked_none (b ∷ bs) [] e = refl
picked_none (true ∷ bs) (c ∷ cs) e = absurd (omega arith)
picked_none (false ∷ bs) (c ∷ cs) e = picked_none bs cs (omega arith)

-- a choice of one is one of the columns
pub picked-one : (bs : List Bool) (cs : List ℕ) → length bs ≡ length cs → weight bs ≡ 1
    → (i : ℕ) × (i < length cs) × (picked bs cs ≡ get_or cs i 0)
picked-one [] cs l e = absurd (omega arith)
picked-one (b ∷ bs) [] l e = absurd (omega arith)
picked-one (true ∷ bs) (c ∷ cs) l e =
    (0, omega arith, ap (bit_xor c) (picked_none bs cs (omega arith)) ∙ xor_zero_r c)
picked-one (false ∷ bs) (c ∷ cs) l e =
    let r = picked-one bs cs (omega arith) (omega arith) in (suc r.0, omega (arith, r.1), r.2)

-- a choice of two is the ⊕ of two of the columns
pub picked-two : (bs : List Bool) (cs : List ℕ) → length bs ≡ length cs → weight bs ≡ 2
    → (i j : ℕ) × (i < j) × (j < length cs) × (picked bs cs ≡ bit_xor (get_or cs i 0) (get_or cs j 0))
picked-two [] cs l e = absurd (omega arith)
picked-two (b ∷ bs) [] l e = absurd (omega arith)
picked-two (true ∷ bs) (c ∷ cs) l e =
    let r = picked-one bs cs (omega arith) (omega arith) in
    (0, suc r.0, omega arith, omega (arith, r.1), ap (bit_xor c) r.2)
picked-two (false ∷ bs) (c ∷ cs) l e =
    let r = picked-two bs cs (omega arith) (omega arith) in (suc r.0, suc r.1, omega (arith, r.2), omega (arith, r.3), r.4)

-- the ⊕ of columns of k bits has k bits
chosen_lt : (b : Bool) (c k : ℕ) → c < 2 ^ k → cond b c 0 < 2 ^ k
chosen_lt true c k h = h
chosen_lt false c k h = pow_pos k

pub picked-lt : (k : ℕ) (bs : List Bool) (cs : List ℕ) → AllByRecursion (λ c. c < 2 ^ k) cs → picked bs cs < 2 ^ k
picked-lt k [] cs h = pow_pos k
picked-lt k (b ∷ bs) [] h = pow_pos k
picked-lt k (b ∷ bs) (c ∷ cs) h = xor_lt k (cond b c 0) (picked bs cs) (chosen_lt b c k h.0) (picked-lt k bs cs h.1)

-- one more bit turned over adds its column
turned : (b : Bool) (c r : ℕ) → bit_xor (cond (not b) c 0) r ≡ bit_xor (bit_xor (cond b c 0) r) c
turned true c r = sym (xor_comm (bit_xor c r) c ∙ sym (xor_assoc c c r) ∙ ap (λ x. bit_xor x r) (xor_self c))
turned false c r = xor_comm c r

pub picked-toggle : (bs : List Bool) (cs : List ℕ) (i : ℕ) → i < length bs → picked (toggle bs i) cs ≡ bit_xor (picked bs cs) (get_or cs i 0)
picked-toggle [] cs i h = absurd (omega arith)
picked-toggle (b ∷ bs) [] zero h = refl
picked-toggle (b ∷ bs) [] (suc i) h = refl
picked-toggle (b ∷ bs) (c ∷ cs) zero h = turned b c (picked bs cs)
picked-toggle (b ∷ bs) (c ∷ cs) (suc i) h =
    ap (bit_xor (cond b c 0)) (picked-toggle bs cs i (le_of_suc-le-suc h)) ∙ sym (xor_assoc (cond b c 0) (picked bs cs) (get_or cs i 0))

pub length-toggle : (bs : List Bool) (i : ℕ) → length (toggle bs i) ≡ length bs
length-toggle [] i = refl
length-toggle (b ∷ bs) zero = refl
length-toggle (b ∷ bs) (suc i) = ap suc (length-toggle bs i)

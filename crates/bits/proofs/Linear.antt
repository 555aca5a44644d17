-- What bits pick is linear: the columns at which two runs of bits differ have the ⊕ of what each run picks.
use Rattle.std.proofs.Common.{◌≡◌, ℕ, ◌<◌, Bool, true, false, cond, List, [], ◌∷◌, ◌++◌, length, get_or, sym, refl, ap, ◌∙◌, ap₂, arith}
use native.Mathlib.Nat.{suc_inj}
use lib.Bits.{bit_xor, xor_zero_r, xor_self, xor_comm, xor_assoc}
use Rattle.bits.specs.Changes.{differ, changes}
use Rattle.bits.specs.Columns.{picked}

pub xor_swap : (a b c d : ℕ) → bit_xor (bit_xor a b) (bit_xor c d) ≡ bit_xor (bit_xor a c) (bit_xor b d)
xor_swap a b c d =
    xor_assoc a b (bit_xor c d)
    ∙ ap (bit_xor a) (sym (xor_assoc b c d) ∙ ap (λ (x : ℕ). bit_xor x d) (xor_comm b c) ∙ xor_assoc c b d)
    ∙ sym (xor_assoc a c (bit_xor b d))

pub xor_from_same : (a b : ℕ) → a ≡ b → bit_xor a b ≡ 0
xor_from_same a b e = ap (bit_xor a) (sym e) ∙ xor_self a

one_bit : (x y : Bool) (c : ℕ) → cond (differ x y) c 0 ≡ bit_xor (cond x c 0) (cond y c 0)
one_bit true true c = sym (xor_self c)
one_bit true false c = sym (xor_zero_r c)
one_bit false y c = refl

pub picked-changes : (xs ys : List Bool) (cs : List ℕ) → length xs ≡ length ys → picked (changes xs ys) cs ≡ bit_xor (picked xs cs) (picked ys cs)
picked-changes [] [] cs e = refl
picked-changes [] (y ∷ ys) cs e = absurd (omega arith)
picked-changes (x ∷ xs) [] cs e = absurd (omega arith)
picked-changes (x ∷ xs) (y ∷ ys) [] e = refl
picked-changes (x ∷ xs) (y ∷ ys) (c ∷ cs) e =
    ap₂ bit_xor (one_bit x y c) (picked-changes xs ys cs (suc_inj e)) ∙ xor_swap (cond x c 0) (cond y c 0) (picked xs cs) (picked ys cs)

-- one run of bits after another, over one list of columns after another
pub picked-append : (xs ys : List Bool) (cs ds : List ℕ) → length xs ≡ length cs → picked (xs ++ ys) (cs ++ ds) ≡ bit_xor (picked xs cs) (picked ys ds)
picked-append [] ys [] ds e = refl
picked-append [] ys (c ∷ cs) ds e = absurd (omega arith)
picked-append (x ∷ xs) ys [] ds e = absurd (omega arith)
picked-append (x ∷ xs) ys (c ∷ cs) ds e =
    ap (bit_xor (cond x c 0)) (picked-append xs ys cs ds (suc_inj e)) ∙ sym (xor_assoc (cond x c 0) (picked xs cs) (picked ys ds))

-- one bit more, as the step of a loop
pub picked-push : (xs : List Bool) (b : Bool) (cs : List ℕ) → length xs < length cs
    → picked (xs ++ b ∷ []) cs ≡ bit_xor (picked xs cs) (cond b (get_or cs (length xs) 0) 0)
picked-push xs b [] h = absurd (omega arith)
picked-push [] b (c ∷ cs) h = xor_zero_r (cond b c 0)
picked-push (x ∷ xs) b (c ∷ cs) h =
    ap (bit_xor (cond x c 0)) (picked-push xs b cs (omega arith))
    ∙ sym (xor_assoc (cond x c 0) (picked xs cs) (cond b (get_or cs (length xs) 0) 0))

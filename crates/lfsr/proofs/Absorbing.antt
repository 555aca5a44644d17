-- One more bit of a text taken into a digest.
use Rattle.std.proofs.Common.{◌≡◌, ℕ, zero, suc, ◌-◌, ◌/◌, ◌%◌, ◌^◌, ◌<◌, Bool, cond, eqb, List, [], ◌∷◌, ◌++◌, sym, ap, ◌∙◌, sub-one, arith}
use lib.Bits.{bit_xor, xor_assoc, xor_zero_r}
use Rattle.bits.specs.Bits.{bits_of}
use Rattle.bits.specs.Columns.{picked}
use Rattle.bits.proofs.Picks.{picked-nil}
use Rattle.lfsr.specs.Digests.{comes_to}

-- the bit at place k - 1 of a byte, where a column is left for it
pub bit_absorbed : (byte k d e x : ℕ) (all columns : List ℕ) (rest : List Bool) → 0 < k → all ≡ x ∷ columns → e ≡ bit_xor d (cond (eqb (byte / 2 ^ (k - 1) % 2) 1) x 0)
    → comes_to e columns (bits_of (k - 1) byte ++ rest) ≡ comes_to d all (bits_of k byte ++ rest)
unfolding bits_of
bit_absorbed byte zero d e x all columns rest h l q = absurd (omega arith)
bit_absorbed byte (suc j) d e x all columns rest h l q =
    let j1 : suc j - 1 ≡ j = sub-one (suc j) in
    ap (λ n. bit_xor e (picked (bits_of n byte ++ rest) columns)) j1
    ∙ ap (λ y. bit_xor y (picked (bits_of j byte ++ rest) columns)) (q ∙ ap (λ n. bit_xor d (cond (eqb (byte / 2 ^ n % 2) 1) x 0)) j1)
    ∙ xor_assoc d (cond (eqb (byte / 2 ^ j % 2) 1) x 0) (picked (bits_of j byte ++ rest) columns)
    ∙ sym (ap (λ cs. bit_xor d (picked (bits_of (suc j) byte ++ rest) cs)) l)

-- no column left: what follows does not matter
pub none_left : (d : ℕ) (all : List ℕ) (xs : List Bool) → all ≡ [] → d ≡ comes_to d all xs
none_left d all xs l = sym (xor_zero_r d) ∙ sym (ap (bit_xor d) (picked-nil xs)) ∙ sym (ap (λ cs. bit_xor d (picked xs cs)) l)

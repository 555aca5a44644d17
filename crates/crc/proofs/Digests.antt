-- The digest, bit by bit: Horner's rule.
use Rattle.std.proofs.Common.{◌≡◌, ℕ, zero, suc, ◌+◌, ◌-◌, ◌/◌, ◌%◌, ◌^◌, ◌<◌, ◌≤◌, Bool, true, false, cond, eqb, ◌⊎◌, List, ◌∷◌, ◌++◌, sym, refl, ap, ◌∙◌, ap₂, ⊎_elim, arith}
use lib.Bits.{bit_xor, xor_assoc, xor_zero_l, xor_zero_r}
use Rattle.bits.specs.Bits.{bits_of}
use Rattle.bits.specs.Columns.{picked}
use Rattle.bits.proofs.Picks.{picked-nil}
use Rattle.family.specs.Orbits.{iterate}
use Rattle.family.proofs.OrbitColumns.{iterate_add}
use Rattle.crc.specs.Horner.{completed}
use Rattle.crc.specs.Powers.{times_x, power, crc_columns}
use Rattle.crc.specs.TimesX.{times_x-zero, times_x-xor}
use Rattle.crc.specs.PowersLemmas.{power-top}

module _ (k c : ℕ) where
  iterate-xor : (j a b : ℕ) → iterate (times_x (suc k) c) j (bit_xor a b) ≡ bit_xor (iterate (times_x (suc k) c) j a) (iterate (times_x (suc k) c) j b)
  iterate-xor zero a b = refl
  iterate-xor (suc j) a b =
      ap (iterate (times_x (suc k) c) j) (times_x-xor k c a b) ∙ iterate-xor j (times_x (suc k) c a) (times_x (suc k) c b)

  iterate-zero : (j : ℕ) → iterate (times_x (suc k) c) j 0 ≡ 0
  iterate-zero zero = refl
  iterate-zero (suc j) = ap (iterate (times_x (suc k) c) j) (times_x-zero k c) ∙ iterate-zero j

  iterate-top : (m : ℕ) → iterate (times_x (suc k) c) m c ≡ power (suc k) c (suc k + m)
  iterate-top m =
      ap (iterate (times_x (suc k) c) m) (sym (power-top (suc k) c (omega arith))) ∙ sym (iterate_add (times_x (suc k) c) (suc k) m 1)

  -- one more bit
  pub bit_completed : (b : Bool) (rest : List Bool) (m a : ℕ)
      → completed (suc k) c (bit_xor (times_x (suc k) c a) (cond b c 0)) m rest ≡ completed (suc k) c a (suc m) (b ∷ rest)
  bit_completed true rest m a =
      ap (λ x. bit_xor x (picked rest (crc_columns (suc k) c m)))
      (iterate-xor m (times_x (suc k) c a) c ∙ ap (bit_xor (iterate (times_x (suc k) c) (suc m) a)) (iterate-top m))
      ∙ xor_assoc (iterate (times_x (suc k) c) (suc m) a) (power (suc k) c (suc k + m)) (picked rest (crc_columns (suc k) c m))
  bit_completed false rest m a =
      ap₂ bit_xor (ap (iterate (times_x (suc k) c) m) (xor_zero_r (times_x (suc k) c a))) (sym (xor_zero_l (picked rest (crc_columns (suc k) c m))))

-- the bit at a place of a byte, while bits are left
pub place-completed : (n c byte place left d word : ℕ) (rest : List Bool) → 1 ≤ n → place < 8 → 0 < left
    → word ≡ cond (eqb (byte / 2 ^ (7 - place) % 2) 1) c 0
    → completed n c (bit_xor (times_x n c d) word) (left - 1) (bits_of (8 - (place + 1)) byte ++ rest) ≡ completed n c d left (bits_of (8 - place) byte ++ rest)
unfolding bits_of
place-completed zero c byte place left d word rest h g p q = absurd (omega arith)
place-completed (suc k) c byte place left d word rest h g p q =
    let j : ℕ = 7 - place in
    let m : ℕ = left - 1 in
    let now : 8 - place ≡ suc j = omega arith in
    let next : 8 - (place + 1) ≡ j = omega arith in
    let more : suc m ≡ left = omega arith in
    ap₂ (λ x y. completed (suc k) c (bit_xor (times_x (suc k) c d) x) m (bits_of y byte ++ rest)) q next
    ∙ bit_completed k c (eqb (byte / 2 ^ j % 2) 1) (bits_of j byte ++ rest) m d
    ∙ ap₂ (λ x y. completed (suc k) c d x (bits_of y byte ++ rest)) more (sym now)

-- no bit left: what comes no longer matters
pub none_completed : (n c digest : ℕ) (rest : List Bool) → completed n c digest 0 rest ≡ digest
none_completed n c digest rest = ap (bit_xor digest) (picked-nil rest) ∙ xor_zero_r digest

pub byte_completed : (n c byte digest left place : ℕ) (rest : List Bool) → place ≤ 8 → place ≤ left → (left ≤ place) ⊎ (8 ≤ place)
    → completed n c digest (left - 8) rest ≡ completed n c digest (left - place) (bits_of (8 - place) byte ++ rest)
unfolding bits_of
byte_completed n c byte digest left place rest low few end =
    ⊎_elim
    (λ done.
    let now : left - place ≡ 0 = omega arith in
    let then : left - 8 ≡ 0 = omega arith in
    ap (λ x. completed n c digest x rest) then ∙ none_completed n c digest rest
    ∙ sym (ap (λ x. completed n c digest x (bits_of (8 - place) byte ++ rest)) now ∙ none_completed n c digest (bits_of (8 - place) byte ++ rest)))
    (λ all.
    let now : left - 8 ≡ left - place = omega arith in
    let none : 0 ≡ 8 - place = omega arith in
    ap₂ (λ x y. completed n c digest x (bits_of y byte ++ rest)) now none)
    end

-- nothing taken in yet
pub all_completed : (n c m : ℕ) (text : List Bool) → 1 ≤ n → completed n c 0 m text ≡ picked text (crc_columns n c m)
all_completed zero c m text h = absurd (omega arith)
all_completed (suc k) c m text h = ap (λ x. bit_xor x (picked text (crc_columns (suc k) c m))) (iterate-zero k c m) ∙ xor_zero_l (picked text (crc_columns (suc k) c m))

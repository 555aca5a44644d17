-- States followed by the bit that makes their ones even.
use Rattle.std.specs.Prelude.{◌≡◌, ℕ, ◌+◌, ◌*◌, ◌/◌, ◌%◌, ◌^◌, ◌<◌, ◌≢◌, List, ◌++◌, map, length, bit_xor, count_ones, slice_index}
use Rattle.std.proofs.Common.{sym, ap, ◌∙◌, arith, add-one, pow-suc}
use Rattle.std.proofs.lemmas.Nat.{xor_block, ones_cat}
use Rattle.std.proofs.lemmas.List.{length-map, get_or-map}
use Rattle.bits.specs.Columns.{units}
use Rattle.bits.proofs.Xors.{ones_xor, xor_digit, ones_zero, ones_digit}
use Rattle.family.specs.Meaning.{Separate}
use Rattle.family.proofs.Separates.{separate_left}
use Rattle.family.proofs.OrbitColumns.{separate-from_units}
use Rattle.lfsr.specs.Keys.{evened}

evened-half : (a : ℕ) → evened a / 2 ≡ a
unfolding evened
evened-half a = omega arith

pub evened-apart : (a b : ℕ) → evened a ≡ evened b → a ≡ b
evened-apart a b e = sym (evened-half a) ∙ ap (λ x. x / 2) e ∙ evened-half b

pub evened-zero : evened 0 ≡ 0
unfolding evened
evened-zero = ap (λ x. 0 + x % 2) ones_zero

pub evened-lt : (n a : ℕ) → a < 2 ^ n → evened a < 2 ^ (n + 1)
unfolding evened
evened-lt n a h = omega (arith, ap (λ k. 2 ^ k) (add-one n) ∙ pow-suc 2 n)

pub ones_evened : (a : ℕ) → count_ones (evened a) ≡ count_ones a + count_ones a % 2
unfolding evened
ones_evened a = ones_cat 1 a (count_ones a % 2) (omega arith) ∙ ap (λ x. count_ones a + x) (ones_digit (count_ones a % 2) (omega arith))

pub even_ones : (a : ℕ) → count_ones (evened a) % 2 ≡ 0
even_ones a = omega (arith, ones_evened a)

-- the ⊕ of such columns is such a column
pub evened-xor : (a b : ℕ) → evened (bit_xor a b) ≡ bit_xor (evened a) (evened b)
unfolding evened
evened-xor a b =
    let low : bit_xor (count_ones a % 2) (count_ones b % 2) ≡ count_ones (bit_xor a b) % 2 =
    xor_digit (count_ones a % 2) (count_ones b % 2) (omega arith) (omega arith) ∙ omega (arith, ones_xor a b) in
    sym (xor_block 1 a b (count_ones a % 2) (count_ones b % 2) (omega arith) (omega arith) ∙ ap (λ x. bit_xor a b * 2 + x) low)

-- a number that its upper bits do not make is made by no state
pub uneven-none : (x : ℕ) → evened (x / 2) ≢ x → (s : ℕ) → evened s ≢ x
uneven-none x n s e = n (ap (λ y. evened (y / 2)) (sym e) ∙ ap evened (evened-half s) ∙ e)

-- with their unit columns they are separate just where the states are
module _ (n : ℕ) (cs : List ℕ) where
  evened-at : (i : ℕ) → i < length cs → slice_index (map evened cs) i ≡ evened (slice_index cs i)
  evened-at i h = get_or-map evened cs i 0 0 h

  pub separate_evened : Separate cs → Separate (map evened cs ++ units n)
  separate_evened s =
      let long = length-map cs evened in
      separate-from_units n (map evened cs) (
        (λ i h e. s.0 i (omega arith) (evened-apart (slice_index cs i) 0 (sym (evened-at i (omega arith)) ∙ e ∙ sym evened-zero))),
        (λ i j ij h e. s.1 i j ij (omega arith) (evened-apart (slice_index cs i) (slice_index cs j) (sym (evened-at i (omega arith)) ∙ e ∙ evened-at j (omega arith)))),
      )
      (λ i h e. omega (arith, ap count_ones (evened-at i (omega arith)), even_ones (slice_index cs i)))

  pub separate_from_evened : Separate (map evened cs ++ units n) → Separate cs
  separate_from_evened s =
      let long = length-map cs evened in
      let left = separate_left (map evened cs) (units n) s in (
        (λ i h e. left.0 i (omega arith) (evened-at i h ∙ ap evened e ∙ evened-zero)),
        (λ i j ij h e. left.1 i j ij (omega arith) (evened-at i (omega arith) ∙ ap evened e ∙ sym (evened-at j h))),
      )

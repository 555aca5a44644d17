-- Between the bits of frames and the shifts and bytes of code.
use Rattle.std.proofs.Common.{◌≡◌, ℕ, ◌+◌, ◌-◌, ◌/◌, ◌%◌, ◌^◌, ◌<◌, Bool, List, ◌++◌, length, take, drop, sym, ap, ◌∙◌, subst, ap₂, mod-lt, mod-eq_of_lt, zero-add, arith, take_at, drop_at}
use Rattle.std.proofs.lemmas.Nat.{pow_pos, shr_below}
use Rattle.bits.specs.Bits.{Bytes, bits_of, bits, weight}
use Rattle.bits.specs.Bytes.{bytes_of}
use Rattle.bits.specs.Columns.{picked, units}
use Rattle.bits.proofs.BytesOfNumbers.{bits-bytes_of, number_of, bits-number_of}
use Rattle.bits.proofs.OnesOfBits.{take-bits_of}
use Rattle.bits.proofs.Picks.{picked_none}
use Rattle.bits.proofs.Runs.{length-bits_of, bits-append, picked-units, bits_of-mod, bits_of-add}
use Rattle.bits.proofs.Weights.{weight-zero}
use Rattle.pads.specs.Pad.{pad as word_pad}
use Rattle.frames.specs.Frames.{bound_word, tag_size, spare, pad_of}
use Rattle.frames.specs.Changed.{PadsArePads, PadsAreFirstBits}
use Rattle.frames.proofs.Parts.{tag_room}

-- the bound word as eight bytes
pub bound_word-bytes : (door slot : ℕ) → bits (bytes_of 4 door ++ bytes_of 4 slot) ≡ bound_word door slot
unfolding bound_word
bound_word-bytes door slot =
    bits-append (bytes_of 4 door) (bytes_of 4 slot) ∙ ap₂ (λ (x y : List Bool). x ++ y) (bits-bytes_of 4 door) (bits-bytes_of 4 slot)

-- the pad as a shift
pub pads_are_pads : PadsArePads
pads_are_pads n w h l =
    let e : ◌≡◌ {A = ℕ} 64 (n + (64 - n)) = omega arith in mod-eq_of_lt (shr_below w n (64 - n) (subst (λ (k : ℕ). w < 2 ^ k) e l))

-- and its first bits
pub pads_are_first_bits : PadsAreFirstBits
pads_are_first_bits n word h =
    let sum : n + (64 - n) ≡ 64 = omega arith in sym (take-bits_of n (64 - n) word) ∙ ap (λ (k : ℕ). take n (bits_of k word)) sum

pub pad_of-lt : (n w : ℕ) → pad_of n w < 2 ^ n
pad_of-lt n w = mod-lt (word_pad n w) (pow_pos n)

-- the tag that arrives, and its spare bits, from the bytes behind the payload as one number
module _ (n : ℕ) (bytes : List ℕ) (size : length bytes ≡ tag_size n) (hb : Bytes bytes) where
  parts : bits bytes ≡ bits_of n (number_of 0 bytes / 2 ^ spare n) ++ bits_of (spare n) (number_of 0 bytes)
  unfolding bits_of
  parts =
      bits-number_of 0 0 bytes hb
      ∙ ap (λ (k : ℕ). bits_of k (number_of 0 bytes)) (omega (arith, tag_room n))
      ∙ bits_of-add n (spare n) (number_of 0 bytes)

  pub received_tag : picked (take n (bits bytes)) (units n) ≡ number_of 0 bytes / 2 ^ spare n % 2 ^ n
  received_tag =
      ap (λ (r : List Bool). picked (take n r) (units n)) parts
      ∙ ap (λ (r : List Bool). picked r (units n))
      (take_at (bits_of n (number_of 0 bytes / 2 ^ spare n)) _ n (length-bits_of n (number_of 0 bytes / 2 ^ spare n)))
      ∙ picked-units n (number_of 0 bytes / 2 ^ spare n)

  spare-are : drop n (bits bytes) ≡ bits_of (spare n) (number_of 0 bytes)
  spare-are =
      ap (drop n) parts ∙ drop_at (bits_of n (number_of 0 bytes / 2 ^ spare n)) _ n (length-bits_of n (number_of 0 bytes / 2 ^ spare n))

  pub no_spare_ones : number_of 0 bytes % 2 ^ spare n ≡ 0 → weight (drop n (bits bytes)) ≡ 0
  no_spare_ones e =
      ap weight
      (spare-are ∙ sym (bits_of-mod 0 (spare n) (number_of 0 bytes))
      ∙ ap (λ (k : ℕ). bits_of (spare n) (number_of 0 bytes % 2 ^ k)) (zero-add (spare n))
      ∙ ap (bits_of (spare n)) e)
      ∙ weight-zero (spare n)

  pub no_spare_remainder : weight (drop n (bits bytes)) ≡ 0 → number_of 0 bytes % 2 ^ spare n ≡ 0
  no_spare_remainder e =
      sym (picked-units (spare n) (number_of 0 bytes))
      ∙ picked_none (bits_of (spare n) (number_of 0 bytes)) (units (spare n)) (ap weight (sym spare-are) ∙ e)

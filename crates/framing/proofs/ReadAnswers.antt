-- A tag that arrives, from shifts and bytes.
use Rattle.std.proofs.Common.{◌≡◌, ℕ, ◌+◌, ◌-◌, ◌*◌, ◌/◌, ◌%◌, ◌^◌, ◌<◌, ◌≤◌, ◌≢◌, List, length, take, drop, sym, ap, ◌∙◌, one-mul, arith, shl_exact}
use Rattle.bits.specs.Bits.{Bytes, bits, weight}
use Rattle.bits.specs.Columns.{picked, units}
use Rattle.pads.specs.Sources.{first_eight}
use Rattle.frames.specs.Frames.{tag_size}
use Rattle.framing.proofs.Numbers.{tag_number, spare_number, spare_none}

module _ (n : ℕ) (bytes : List ℕ) (word : ℕ) (small : n ≤ 64) (above : 0 < n) (size : length bytes ≡ tag_size n) (hb : Bytes bytes)
    (is : word ≡ first_eight bytes) where
  pub tag_is : word / 2 ^ (64 - n) ≡ picked (take n (bits bytes)) (units n)
  tag_is = ap (λ (x : ℕ). x / 2 ^ (64 - n)) is ∙ tag_number n bytes small size hb

  low_bits_are : word % (1 * 2 ^ (64 - n) % 2 ^ 64) ≡ first_eight bytes % 2 ^ (64 - n)
  low_bits_are =
      let less : 1 + (64 - n) ≤ 64 = omega arith in
      ap (λ (x : ℕ). word % x) (shl_exact {a = 1} 1 (64 - n) 64 (omega arith) less ∙ one-mul (2 ^ (64 - n)))
      ∙ ap (λ (x : ℕ). x % 2 ^ (64 - n)) is

  pub spare_ones : (word % (1 * 2 ^ (64 - n) % 2 ^ 64) ≡ 0 → ⊥) → weight (drop n (bits bytes)) ≢ 0
  spare_ones h e = h (low_bits_are ∙ spare_number n bytes small size hb e)

  pub spare_zeros : word % (1 * 2 ^ (64 - n) % 2 ^ 64) ≡ 0 → weight (drop n (bits bytes)) ≡ 0
  spare_zeros h = spare_none n bytes small size hb (sym low_bits_are ∙ h)

-- The bytes of a tag as one number, and as the first of eight.
use Rattle.std.proofs.Common.{◌≡◌, ℕ, zero, suc, ◌+◌, ◌-◌, ◌*◌, ◌/◌, ◌%◌, ◌^◌, ◌<◌, ◌≤◌, List, [], ◌∷◌, ◌++◌, length, take, drop, sym, refl, ap, ◌∙◌, subst, ap₂, mod-eq_of_lt, mul_assoc, mul_comm, suc-add, zero-add, arith, take_at}
use Rattle.std.proofs.lemmas.Nat.{pow_pos, pow-add, shl-shr, shr-shr, shr_below, mod-pow-add, mod_low, mul-add-lt, mul-le}
use Rattle.bits.specs.Bits.{Bytes, bits, weight}
use Rattle.bits.specs.Bytes.{bytes_of}
use Rattle.bits.specs.Columns.{picked, units}
use Rattle.bits.proofs.BytesOfNumbers.{length-bytes_of, number_of}
use Rattle.pads.specs.Sources.{first_eight}
use Rattle.frames.specs.Frames.{tag_size, spare}
use Rattle.frames.proofs.Parts.{tag_room}
use Rattle.frames.proofs.Shifts.{received_tag, no_spare_ones, no_spare_remainder}

-- ---- a tag that is written

bytes_of-add : (j k x : ℕ) → bytes_of (j + k) x ≡ bytes_of j (x / 2 ^ (8 * k)) ++ bytes_of k x
bytes_of-add zero k x = ap (λ (n : ℕ). bytes_of n x) (zero-add k)
bytes_of-add (suc j) k x =
    ap (λ (n : ℕ). bytes_of n x) (suc-add j k)
    ∙ ap₂ (λ (a : ℕ) (r : List ℕ). a % 256 ∷ r)
    (ap (λ (n : ℕ). x / 2 ^ n) (omega arith) ∙ sym (shr-shr x (8 * k) (8 * j)))
    (bytes_of-add j k x)

shifted_back : (x a s q : ℕ) → a ≡ s + q → x * 2 ^ a / 2 ^ q ≡ x * 2 ^ s
shifted_back x a s q f =
    ap (λ (m : ℕ). x * 2 ^ m / 2 ^ q) f
    ∙ ap (λ (m : ℕ). x * m / 2 ^ q) (pow-add 2 s q)
    ∙ ap (λ (m : ℕ). m / 2 ^ q) (sym (mul_assoc x (2 ^ s) (2 ^ q)))
    ∙ shl-shr (x * 2 ^ s) q

-- the first bytes of the tag shifted to the front of eight
pub tag_in_front : (n tag : ℕ) → n ≤ 64 → take (tag_size n) (bytes_of 8 (tag * 2 ^ (64 - n))) ≡ bytes_of (tag_size n) (tag * 2 ^ spare n)
unfolding tag_size
tag_in_front n tag small =
    let t = (n + 7) / 8 in
    let s = 8 * t - n in
    let e : ◌≡◌ {A = ℕ} 8 (t + (8 - t)) = omega arith in
    let f : 64 - n ≡ s + 8 * (8 - t) = omega arith in
    ap (λ (m : ℕ). take t (bytes_of m (tag * 2 ^ (64 - n)))) e
    ∙ ap (take t) (bytes_of-add t (8 - t) (tag * 2 ^ (64 - n)))
    ∙ take_at (bytes_of t (tag * 2 ^ (64 - n) / 2 ^ (8 * (8 - t)))) _ t (length-bytes_of t _)
    ∙ ap (bytes_of t) (shifted_back tag (64 - n) s (8 * (8 - t)) f)

-- ---- a tag that is read

-- fewer bytes, read as the first of eight
eight_number : (bs : List ℕ) → length bs ≤ 8 → first_eight bs ≡ number_of 0 bs * 2 ^ (8 * (8 - length bs))
eight_number [] h = refl
eight_number (a ∷ []) h = omega arith
eight_number (a ∷ b ∷ []) h = omega arith
eight_number (a ∷ b ∷ c ∷ []) h = omega arith
eight_number (a ∷ b ∷ c ∷ d ∷ []) h = omega arith
eight_number (a ∷ b ∷ c ∷ d ∷ e ∷ []) h = omega arith
eight_number (a ∷ b ∷ c ∷ d ∷ e ∷ f ∷ []) h = omega arith
eight_number (a ∷ b ∷ c ∷ d ∷ e ∷ f ∷ g ∷ []) h = omega arith
eight_number (a ∷ b ∷ c ∷ d ∷ e ∷ f ∷ g ∷ i ∷ []) h = omega arith
eight_number (a ∷ b ∷ c ∷ d ∷ e ∷ f ∷ g ∷ i ∷ j ∷ r) h = absurd (omega arith)

number_below : (v k : ℕ) (bs : List ℕ) → v < 2 ^ k → Bytes bs → number_of v bs < 2 ^ (k + 8 * length bs)
number_below v k [] h hb = subst (λ (n : ℕ). v < 2 ^ n) (omega arith) h
number_below v k (b ∷ bs) h hb =
    let e : 256 * 2 ^ k ≡ 2 ^ (k + 8) = mul_comm 256 (2 ^ k) ∙ sym (pow-add 2 k 8) in
    subst (λ (n : ℕ). number_of (v * 256 + b) bs < 2 ^ n) (omega arith)
    (number_below (v * 256 + b) (k + 8) bs (subst (λ (m : ℕ). v * 256 + b < m) e (mul-add-lt v 256 b (2 ^ k) h hb.0)) hb.1)

no_factor : (a p : ℕ) → 0 < p → a * p ≡ 0 → a ≡ 0
no_factor zero p hp e = refl
no_factor (suc a) p hp e = absurd (omega (arith, mul-le 1 p (suc a) p (omega arith) (omega arith)))

module _ (n : ℕ) (tb : List ℕ) (small : n ≤ 64) (size : length tb ≡ tag_size n) (hb : Bytes tb) where
  at_most_eight : tag_size n ≤ 8
  unfolding tag_size
  at_most_eight = omega arith

  low_bits : 64 - n ≡ spare n + 8 * (8 - tag_size n)
  unfolding tag_size
  low_bits = omega arith

  as_number : first_eight tb ≡ number_of 0 tb * 2 ^ (8 * (8 - tag_size n))
  as_number =
      eight_number tb (subst (λ (t : ℕ). t ≤ 8) (sym size) at_most_eight) ∙ ap (λ (t : ℕ). number_of 0 tb * 2 ^ (8 * (8 - t))) size

  high_part : first_eight tb / 2 ^ (64 - n) ≡ number_of 0 tb / 2 ^ spare n
  high_part =
      let k = 8 * (8 - tag_size n) in
      let e : 64 - n ≡ k + spare n = omega (arith, low_bits) in
      ap₂ (λ (x m : ℕ). x / 2 ^ m) as_number e
      ∙ sym (shr-shr (number_of 0 tb * 2 ^ k) k (spare n))
      ∙ ap (λ (x : ℕ). x / 2 ^ spare n) (shl-shr (number_of 0 tb) k)

  high_fits : number_of 0 tb / 2 ^ spare n < 2 ^ n
  high_fits =
      let e : 0 + 8 * length tb ≡ n + spare n = omega (arith, size, tag_room n) in
      shr_below (number_of 0 tb) n (spare n) (subst (λ (m : ℕ). number_of 0 tb < 2 ^ m) e (number_below 0 0 tb (omega arith) hb))

  -- the tag that arrives
  pub tag_number : first_eight tb / 2 ^ (64 - n) ≡ picked (take n (bits tb)) (units n)
  tag_number = high_part ∙ sym (mod-eq_of_lt high_fits) ∙ sym (received_tag n tb size hb)

  low_part : first_eight tb % 2 ^ (64 - n) ≡ (number_of 0 tb % 2 ^ spare n) * 2 ^ (8 * (8 - tag_size n))
  low_part =
      let k = 8 * (8 - tag_size n) in
      let z : number_of 0 tb * 2 ^ k ≡ number_of 0 tb * 2 ^ k + 0 = omega arith in
      let m : (number_of 0 tb * 2 ^ k) % 2 ^ k ≡ 0 = ap (λ (x : ℕ). x % 2 ^ k) z ∙ mod_low (number_of 0 tb) k 0 (pow_pos k) in
      ap₂ (λ (x y : ℕ). x % 2 ^ y) as_number low_bits
      ∙ mod-pow-add (number_of 0 tb * 2 ^ k) (spare n) k
      ∙ ap₂ (λ (x y : ℕ). x % 2 ^ spare n * 2 ^ k + y) (shl-shr (number_of 0 tb) k) m
      ∙ omega arith

  -- its spare bits
  pub spare_number : weight (drop n (bits tb)) ≡ 0 → first_eight tb % 2 ^ (64 - n) ≡ 0
  spare_number h =
      low_part ∙ ap (λ (x : ℕ). x * 2 ^ (8 * (8 - tag_size n))) (no_spare_remainder n tb size hb h) ∙ omega arith

  pub spare_none : first_eight tb % 2 ^ (64 - n) ≡ 0 → weight (drop n (bits tb)) ≡ 0
  spare_none h = no_spare_ones n tb size hb (no_factor _ _ (pow_pos (8 * (8 - tag_size n))) (sym low_part ∙ h))

-- The powers of x modulo a generator: when they are all different, and their places among the columns.
use Rattle.std.specs.Prelude.{◌≡◌, ℕ, zero, suc, ◌+◌, ◌-◌, ◌%◌, ◌^◌, ◌<◌, ◌≤◌, ◌≢◌, List, ◌∷◌, ◌++◌, length, count_ones, slice_index, refl}
use Rattle.std.proofs.Math.Path.{sym, ap}
use Rattle.std.proofs.Common.{ap₂, subst, ◌∙◌, pow-suc, suc-add, zero-add, pow_pos}
use native.Mathlib.Omega.{arith}
use Rattle.std.proofs.Math.Pow.{pow-lt}
use Rattle.std.specs.List.{AllByRecursion}
use Rattle.bits.specs.Columns.{units}
use Rattle.bits.proofs.Xors.{ones_one}
use Rattle.family.specs.Meaning.{Separate}
use Rattle.family.specs.Orbits.{orbit}
use Rattle.family.proofs.OddColumns.{Odd}
use Rattle.family.proofs.OrbitColumns.{length_orbit, get_or-orbit, iterate_suc, iterate_stays, separate_orbit, again_separate}
use Rattle.family.proofs.Separates.{separate-part}
use Rattle.crc.specs.Powers.{times_x, power, falling, crc_columns}
use Rattle.crc.specs.TimesX.{times_x-lt, times_x-zero, times_x-small, times_x-top, times_x-apart, times_x-parity}

-- ---- the columns and the unit columns together are the powers of x, the highest first

power-unit : (k c j : ℕ) → j < suc k → power (suc k) c j ≡ 2 ^ j
power-unit k c zero h = refl
power-unit k c (suc j) h =
    iterate_suc (times_x (suc k) c) j 1 ∙ ap (times_x (suc k) c) (power-unit k c j (omega arith))
    ∙ times_x-small k c (2 ^ j) (let q : j < k = omega arith in pow-lt q) ∙ sym (pow-suc 2 j)

units-falling : (k c j : ℕ) → j ≤ suc k → units j ≡ falling (suc k) c 0 j
units-falling k c zero h = refl
units-falling k c (suc j) h =
    ap₂ (λ x xs. x ∷ xs) (sym (ap (power (suc k) c) (zero-add j) ∙ power-unit k c j (omega arith))) (units-falling k c j (omega arith))

falling-append : (n c low m : ℕ) → falling n c low m ++ falling n c 0 low ≡ falling n c 0 (m + low)
falling-append n c low zero = sym (ap (falling n c 0) (zero-add low))
falling-append n c low (suc m) =
    let e : low + m ≡ 0 + (m + low) = omega arith in
    ap₂ (λ x xs. x ∷ xs) (ap (power n c) e) (falling-append n c low m) ∙ sym (ap (falling n c 0) (suc-add m low))

all_powers : (k c m : ℕ) → crc_columns (suc k) c m ++ units (suc k) ≡ falling (suc k) c 0 (m + suc k)
all_powers k c m = ap (λ us. crc_columns (suc k) c m ++ us) (units-falling k c (suc k) (omega arith)) ∙ falling-append (suc k) c (suc k) m

pub length-falling : (n c low m : ℕ) → length (falling n c low m) ≡ m
length-falling n c low zero = refl
length-falling n c low (suc m) = ap suc (length-falling n c low m)

pub get_or-falling : (n c low m i : ℕ) → i < m → slice_index (falling n c low m) i ≡ power n c (low + (m - 1 - i))
get_or-falling n c low zero i h = absurd (omega arith)
get_or-falling n c low (suc m) zero h = let e : low + m ≡ low + (suc m - 1 - 0) = omega arith in ap (power n c) e
get_or-falling n c low (suc m) (suc i) h =
    let e : low + (m - 1 - i) ≡ low + (suc m - 1 - suc i) = omega arith in get_or-falling n c low m i (omega arith) ∙ ap (power n c) e

-- x^n mod g is the rest of g
pub power-top : (n c : ℕ) → 1 ≤ n → power n c n ≡ c
power-top zero c h = absurd (omega arith)
power-top (suc k) c h =
    iterate_suc (times_x (suc k) c) k 1 ∙ ap (times_x (suc k) c) (power-unit k c k (omega arith)) ∙ times_x-top k c

-- ---- when they are separate

-- columns turned round are as separate as before
separate-turned : (xs ys : List ℕ) → length xs ≡ length ys → ((i : ℕ) → i < length ys → slice_index ys i ≡ slice_index xs (length ys - 1 - i))
    → Separate xs → Separate ys
separate-turned xs ys long at s = (
  (λ i h e. s.0 (length ys - 1 - i) (omega arith) (sym (at i h) ∙ e)),
  (λ i j ij h e. s.1 (length ys - 1 - j) (length ys - 1 - i) (omega arith) (omega arith) (sym (at j h) ∙ sym e ∙ at i (omega arith))),
)

-- the powers below x^m, the lowest first
module _ (n c m : ℕ) where
  powers : List ℕ
  powers = orbit (times_x n c) m 1

  long : length powers ≡ length (falling n c 0 m)
  unfolding powers
  long = length_orbit (times_x n c) m 1 ∙ sym (length-falling n c 0 m)

  turned : (i : ℕ) → i < length (falling n c 0 m) → slice_index (falling n c 0 m) i ≡ slice_index powers (length (falling n c 0 m) - 1 - i)
  unfolding powers
  turned i h =
      let count = length-falling n c 0 m in
      let e : 0 + (m - 1 - i) ≡ length (falling n c 0 m) - 1 - i = omega arith in
      get_or-falling n c 0 m i (omega arith)
      ∙ sym (get_or-orbit (times_x n c) m 1 (0 + (m - 1 - i)) (omega arith))
      ∙ ap (λ j. slice_index (orbit (times_x n c) m 1) j) e

  pub falling_separate : Separate (orbit (times_x n c) m 1) → Separate (falling n c 0 m)
  unfolding powers
  falling_separate = separate-turned (orbit (times_x n c) m 1) (falling n c 0 m) long turned

  pub separate_falling : Separate (falling n c 0 m) → Separate (orbit (times_x n c) m 1)
  unfolding powers
  separate_falling =
      let count = length-falling n c 0 m in
      separate-turned (falling n c 0 m) (orbit (times_x n c) m 1) (sym long)
      (λ i h.
      let back : length (falling n c 0 m) - 1 - (length powers - 1 - i) ≡ i = omega (arith, long) in
      sym (turned (length powers - 1 - i) (omega (arith, long)) ∙ ap (λ j. slice_index powers j) back))

-- no power after x^0 is 1
pub columns_separate : (n c m : ℕ) → 1 ≤ n → c % 2 ≡ 1 → c < 2 ^ n → ((j : ℕ) → 0 < j → j < m + n → power n c j ≢ 1)
    → Separate (crc_columns n c m ++ units n)
columns_separate zero c m h odd small new = absurd (omega arith)
columns_separate (suc k) c m h odd small new =
    subst Separate (sym (all_powers k c m))
    (falling_separate (suc k) c (m + suc k)
    (separate_orbit (times_x (suc k) c) (suc k) (λ a l. times_x-lt k c a small) (λ a b. times_x-apart k c a b odd) (times_x-zero k c)
    (m + suc k) 1 (omega (arith, pow-suc 2 k, pow_pos k)) (λ e. omega arith) new))

-- one of them is
pub columns_meet : (n c m j : ℕ) → 1 ≤ n → 0 < j → j < m + n → power n c j ≡ 1 → Separate (crc_columns n c m ++ units n) → ⊥
columns_meet zero c m j h p l e s = absurd (omega arith)
columns_meet (suc k) c m j h p l e s =
    again_separate (times_x (suc k) c) (m + suc k) 1 j p l e (separate_falling (suc k) c (m + suc k) (subst Separate (all_powers k c m) s))

-- the columns of a shorter text are the last of those of a longer one
pub columns_fewer : (n c m r : ℕ) → 1 ≤ n → m ≤ r → Separate (crc_columns n c r ++ units n) → Separate (crc_columns n c m ++ units n)
columns_fewer zero c m r h l s = absurd (omega arith)
columns_fewer (suc k) c m r h l s =
    let more = falling (suc k) c 0 (r + suc k) in
    let fewer = falling (suc k) c 0 (m + suc k) in
    let many = length-falling (suc k) c 0 (r + suc k) in
    let few = length-falling (suc k) c 0 (m + suc k) in
    subst Separate (sym (all_powers k c m))
    (separate-part more fewer (λ i. (r - m) + i)
    (λ i h.
    let e : 0 + (m + suc k - 1 - i) ≡ 0 + (r + suc k - 1 - ((r - m) + i)) = omega arith in (
      omega arith,
      get_or-falling (suc k) c 0 (m + suc k) i (omega arith) ∙ ap (power (suc k) c) e ∙ sym (get_or-falling (suc k) c 0 (r + suc k) ((r - m) + i) (omega arith)),
    ))
    (λ i j ij h. omega arith)
    (subst Separate (all_powers k c r) s))

-- ---- each of them has n bits, and an odd number of ones where g has an even number of terms

power-lt : (k c j : ℕ) → c < 2 ^ suc k → power (suc k) c j < 2 ^ suc k
power-lt k c j small = iterate_stays (times_x (suc k) c) (suc k) (λ a l. times_x-lt k c a small) j 1 (omega (arith, pow-suc 2 k, pow_pos k))

power-odd : (k c j : ℕ) → c < 2 ^ suc k → count_ones c % 2 ≡ 1 → count_ones (power (suc k) c j) % 2 ≡ 1
power-odd k c zero small odd = ap (λ x. x % 2) ones_one
power-odd k c (suc j) small odd =
    ap (λ x. count_ones x % 2) (iterate_suc (times_x (suc k) c) j 1) ∙ times_x-parity k c (power (suc k) c j) odd (power-lt k c j small) ∙ power-odd k c j small odd

pub falling-below : (n c low m : ℕ) → 1 ≤ n → c < 2 ^ n → AllByRecursion (λ x. x < 2 ^ n) (falling n c low m)
falling-below zero c low m h small = absurd (omega arith)
falling-below (suc k) c low zero h small = tt
falling-below (suc k) c low (suc m) h small = (power-lt k c (low + m) small, falling-below (suc k) c low m h small)

pub falling-odd : (n c low m : ℕ) → 1 ≤ n → c < 2 ^ n → count_ones c % 2 ≡ 1 → Odd (falling n c low m)
falling-odd zero c low m h small odd = absurd (omega arith)
falling-odd (suc k) c low zero h small odd = tt
falling-odd (suc k) c low (suc m) h small odd = (power-odd k c (low + m) small odd, falling-odd (suc k) c low m h small odd)

-- Columns that a function makes one from another.
use Rattle.std.proofs.Common.{◌≡◌, ℕ, zero, suc, ◌+◌, ◌-◌, ◌^◌, ◌<◌, ◌≤◌, ◌≢◌, List, ◌++◌, length, get_or, sym, refl, ap, ◌∙◌, suc-add, zero-add, arith, pow_pos}
use lib.Count.{ones}
use Rattle.std.specs.List.{AllByRecursion}
use Rattle.bits.specs.Columns.{units}
use Rattle.bits.proofs.UnitColumns.{length-units, get_or-units, ones_power, unit_from_ones}
use Rattle.family.specs.Meaning.{Separate}
use Rattle.family.specs.Orbits.{iterate, orbit}
use Rattle.family.proofs.Separates.{separate_append, separate_left, separate_across, separate-part, separate-units}

module _ (f : ℕ → ℕ) where
  pub length_orbit : (m a : ℕ) → length (orbit f m a) ≡ m
  length_orbit zero a = refl
  length_orbit (suc m) a = ap suc (length_orbit m (f a))

  pub get_or-orbit : (m a i : ℕ) → i < m → get_or (orbit f m a) i 0 ≡ iterate f i a
  get_or-orbit zero a i h = absurd (omega arith)
  get_or-orbit (suc m) a zero h = refl
  get_or-orbit (suc m) a (suc i) h = get_or-orbit m (f a) i (omega arith)

  pub iterate_suc : (k a : ℕ) → iterate f (suc k) a ≡ f (iterate f k a)
  iterate_suc zero a = refl
  iterate_suc (suc k) a = iterate_suc k (f a)

  pub iterate_add : (d i a : ℕ) → iterate f (d + i) a ≡ iterate f i (iterate f d a)
  iterate_add zero i a = ap (λ n. iterate f n a) (zero-add i)
  iterate_add (suc d) i a = ap (λ n. iterate f n a) (suc-add d i) ∙ iterate_add d i (f a)

-- a function of numbers of n bits
module _ (f : ℕ → ℕ) (n : ℕ) (stays : (a : ℕ) → a < 2 ^ n → f a < 2 ^ n) where
  pub iterate_stays : (k a : ℕ) → a < 2 ^ n → iterate f k a < 2 ^ n
  iterate_stays zero a h = h
  iterate_stays (suc k) a h = iterate_stays k (f a) (stays a h)

  pub orbit_below : (m a : ℕ) → a < 2 ^ n → AllByRecursion (λ c. c < 2 ^ n) (orbit f m a)
  orbit_below zero a h = tt
  orbit_below (suc m) a h = (h, orbit_below m (f a) (stays a h))

  -- that keeps them apart, and zero where it is
  module _ (apart : (a b : ℕ) → a < 2 ^ n → b < 2 ^ n → f a ≡ f b → a ≡ b) (fixes : f 0 ≡ 0) where
    iterate-apart : (k a b : ℕ) → a < 2 ^ n → b < 2 ^ n → iterate f k a ≡ iterate f k b → a ≡ b
    iterate-apart zero a b p q e = e
    iterate-apart (suc k) a b p q e = apart a b p q (iterate-apart k (f a) (f b) (stays a p) (stays b q) e)

    -- a value that comes again is the first
    first_again : (i j a : ℕ) → i < j → a < 2 ^ n → iterate f i a ≡ iterate f j a → a ≡ iterate f (j - i) a
    first_again i j a h p e =
        let sum : j ≡ (j - i) + i = omega arith in
        iterate-apart i a (iterate f (j - i) a) p (iterate_stays (j - i) a p)
        (e ∙ ap (λ k. iterate f k a) sum ∙ iterate_add f (j - i) i a)

    pub iterate_nonzero : (k a : ℕ) → a < 2 ^ n → a ≢ 0 → iterate f k a ≢ 0
    iterate_nonzero zero a h z = z
    iterate_nonzero (suc k) a h z = iterate_nonzero k (f a) (stays a h) (λ e. z (apart a 0 h (pow_pos n) (e ∙ sym fixes)))

    -- no column comes again if none after the first is the first
    pub separate_orbit : (m a : ℕ) → a < 2 ^ n → a ≢ 0 → ((j : ℕ) → 0 < j → j < m → iterate f j a ≢ a) → Separate (orbit f m a)
    separate_orbit m a h z new =
        let long = length_orbit f m a in (
          (λ i l e. iterate_nonzero i a h z (sym (get_or-orbit f m a i (omega arith)) ∙ e)),
          (λ i j ij l e.
              let same : iterate f i a ≡ iterate f j a = sym (get_or-orbit f m a i (omega arith)) ∙ e ∙ get_or-orbit f m a j (omega arith) in
              new (j - i) (omega arith) (omega arith) (sym (first_again i j a ij h same))),
        )

-- one that does come again
pub again_separate : (f : ℕ → ℕ) (m a j : ℕ) → 0 < j → j < m → iterate f j a ≡ a → Separate (orbit f m a) → ⊥
again_separate f m a j p h e s =
    let long = length_orbit f m a in
    s.1 0 j p (omega arith) (get_or-orbit f m a 0 (omega arith) ∙ sym e ∙ sym (get_or-orbit f m a j h))

-- columns none of which has a single one are no unit columns
pub separate-from_units : (n : ℕ) (cs : List ℕ) → Separate cs → ((i : ℕ) → i < length cs → ones (get_or cs i 0) ≢ 1) → Separate (cs ++ units n)
separate-from_units n cs s none =
    separate_append cs (units n) s (separate-units n)
    (λ i j hi hj e.
    let long = length-units n in
    none i hi (ap ones (e ∙ get_or-units n j (omega arith)) ∙ ones_power (n - 1 - j)))

-- a column of n bits with a single one is a unit column
pub unit_separate : (n : ℕ) (cs : List ℕ) (i : ℕ) → i < length cs → get_or cs i 0 < 2 ^ n → ones (get_or cs i 0) ≡ 1 → Separate (cs ++ units n) → ⊥
unit_separate n cs i h low e s =
    let long = length-units n in
    let u = unit_from_ones n (get_or cs i 0) low e in
    separate_across cs (units n) s i u.0 h (omega (arith, u.1)) (sym u.2)

-- what holds of m columns with the unit columns holds of the first of them
pub separate-fewer : (n : ℕ) (xs ys : List ℕ) → length ys ≤ length xs → ((i : ℕ) → i < length ys → get_or ys i 0 ≡ get_or xs i 0)
    → Separate (xs ++ units n) → Separate (ys ++ units n)
separate-fewer n xs ys fewer at s =
    separate_append ys (units n)
    (separate-part xs ys (λ i. i) (λ i h. (omega arith, at i h)) (λ i j ij h. ij) (separate_left xs (units n) s))
    (separate-units n)
    (λ i j hi hj e. separate_across xs (units n) s i j (omega arith) hj (sym (at i hi) ∙ e))

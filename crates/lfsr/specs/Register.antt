-- A linear feedback shift register of n bits. Its state is a number: s_0, the oldest bit, is the highest of the n bits.
use Rattle.std.specs.Prelude.{◌≡◌, ℕ, zero, suc, ◌+◌, ◌*◌, ◌/◌, ◌%◌, ◌^◌, ◌<◌, List, length, bit_xor, count_ones, slice_index}

-- The bit that is taken in: the ⊕ of those of s_0 to s_(n-1) whose coefficient is one. The coefficient of x^0, which
-- goes with s_0, is the lowest bit of c.
abbrev pub feedback : ℕ → ℕ → ℕ → ℕ
feedback zero c s = 0
feedback (suc k) c s = bit_xor (c % 2 * (s / 2 ^ k % 2)) (feedback k (c / 2) s)

-- the register drops its oldest bit and takes in the new one
unfoldable pub step : ℕ → ℕ → ℕ → ℕ
step n c s = s * 2 % 2 ^ n + feedback n c s

-- the n low bits of c in the opposite order, so that the coefficient of x^i stands where s_i does
unfoldable pub mirrored : ℕ → ℕ → ℕ
mirrored zero c = 0
mirrored (suc k) c = c % 2 * 2 ^ k + mirrored k (c / 2)

-- one of the columns has a single one, as a unit column has
abbrev pub AnyUnit : List ℕ → Type 0
AnyUnit cs = (i : ℕ) × (i < length cs) × (count_ones (slice_index cs i) ≡ 1)

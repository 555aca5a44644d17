-- What every way of making columns from the states of a register keeps to.
use Rattle.std.specs.Prelude.{◌≡◌, ℕ, ◌+◌, ◌^◌, ◌<◌, ◌≤◌, map, bit_xor}
use Rattle.family.specs.declared.raw.RawKey.{RawKey}
use Rattle.family.specs.Meaning.{Meaning}
use Rattle.lfsr.specs.Keys.{states}

-- The column of a state is a linear function of it that keeps states apart and adds at most one bit; and what a raw key means
-- has, as its columns, those of the states, and distance 3.
pub record IsColumnOf (column : ℕ → ℕ) (extra : ℕ) (meant : RawKey → Meaning) : Type 0 where
  pub of_zero : column 0 ≡ 0
  pub of_xor : (a b : ℕ) → column (bit_xor a b) ≡ bit_xor (column a) (column b)
  pub apart : (a b : ℕ) → column a ≡ column b → a ≡ b
  pub below : (n a : ℕ) → a < 2 ^ n → column a < 2 ^ (n + extra)
  pub few : extra ≤ 1
  pub width : (raw : RawKey) → (meant raw).width ≡ raw.degree + extra
  pub reach : (raw : RawKey) → (meant raw).reach ≡ raw.reach
  pub distance : (raw : RawKey) → (meant raw).distance ≡ 3
  pub columns : (raw : RawKey) (m : ℕ) → (meant raw).columns m ≡ map column (states raw m)

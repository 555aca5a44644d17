-- What an admitted key means, and the law that every key family keeps.
use Rattle.std.specs.Prelude.{◌≡◌, ℕ, ◌+◌, ◌^◌, ◌<◌, ◌≤◌, Bool, ◌≢◌, ◌⊎◌, List, ◌++◌, length, slice_index}
use Rattle.std.specs.List.{AllByRecursion}
use Rattle.bits.specs.Bits.{bits, weight}
use Rattle.bits.specs.Columns.{picked, units}

-- A key's width, which is the number of bits of a tag, its reach, which is the largest number of bits of a text,
-- its code distance, and for each m from 1 to the reach the m columns of a text of m bits.
pub record Meaning : Type 0 where
  pub width : ℕ
  pub reach : ℕ
  pub distance : ℕ
  pub columns : ℕ → List ℕ

-- The digest of a text of m bits is the ⊕ of the columns at which the text has a one.
abbrev pub digest_of : Meaning → ℕ → List ℕ → ℕ
digest_of k m text = picked (bits text) (k.columns m)

-- The law of a key of distance D at m bits: no choice of 1 to D - 1 of the m columns and the unit columns, from
-- different positions, has ⊕ zero. A choice is a run of bits with a one at each position that is chosen.
abbrev pub Law : Meaning → ℕ → Type 0
Law k m =
    (choice : List Bool) → length choice ≡ m + k.width → 1 ≤ weight choice → weight choice < k.distance
    → picked choice (k.columns m ++ units k.width) ≢ 0

-- the longest text of any key, in bits
abbrev pub longest_reach : ℕ
longest_reach = 1016

-- what every key family shows of each of its keys
pub record Lawful (k : Meaning) : Type 0 where
  pub wide : 3 ≤ k.width
  pub narrow : k.width ≤ 64
  pub some_reach : 1 ≤ k.reach
  pub near : k.reach ≤ longest_reach
  pub tells : (k.distance ≡ 3) ⊎ (k.distance ≡ 4)
  pub count : (m : ℕ) → 1 ≤ m → m ≤ k.reach → length (k.columns m) ≡ m
  pub below : (m : ℕ) → 1 ≤ m → m ≤ k.reach → AllByRecursion (λ c. c < 2 ^ k.width) (k.columns m)
  pub law : (m : ℕ) → 1 ≤ m → m ≤ k.reach → Law k m

-- two keys are the same when their meanings are equal
pub record Same (k l : Meaning) : Type 0 where
  pub width : k.width ≡ l.width
  pub reach : k.reach ≡ l.reach
  pub distance : k.distance ≡ l.distance
  pub columns : (m : ℕ) → 1 ≤ m → m ≤ k.reach → k.columns m ≡ l.columns m

-- none of the columns is zero
abbrev pub NoneZero : List ℕ → Type 0
NoneZero cs = (i : ℕ) → i < length cs → slice_index cs i ≢ 0

-- columns at different places are different
abbrev pub AllDifferent : List ℕ → Type 0
AllDifferent cs = (i j : ℕ) → i < j → j < length cs → slice_index cs i ≢ slice_index cs j

-- all different and none zero: for columns with their unit columns, just what the law at distance 3 says
abbrev pub Separate : List ℕ → Type 0
Separate cs = NoneZero cs × AllDifferent cs

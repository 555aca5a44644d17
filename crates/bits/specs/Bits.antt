-- Bits of numbers and of bytes. Bit 0 is the highest bit of the first byte.
use Rattle.std.specs.Prelude.{ℕ, zero, suc, ◌+◌, ◌-◌, ◌/◌, ◌%◌, ◌^◌, ◌<◌, Bool, cond, not, List, [], ◌∷◌, ◌++◌, ◌==◌, bit_xor, slice_index, slice_set}
use Rattle.std.specs.List.{AllByRecursion}

-- numbers that are bytes
abbrev pub Bytes : List ℕ → Type 0
Bytes = AllByRecursion (λ b. b < 256)

-- the n low bits of a number, the highest first
unfoldable pub bits_of : ℕ → ℕ → List Bool
bits_of zero x = []
bits_of (suc k) x = (x / 2 ^ k % 2 == 1) ∷ bits_of k x

-- the bits of a run of bytes
abbrev pub bits : List ℕ → List Bool
bits [] = []
bits (b ∷ bs) = bits_of 8 b ++ bits bs

-- how many of the bits are ones
abbrev pub weight : List Bool → ℕ
weight [] = 0
weight (b ∷ bs) = cond b 1 0 + weight bs

-- one bit turned over; a place past the end changes nothing
abbrev pub toggle : List Bool → ℕ → List Bool
toggle [] i = []
toggle (b ∷ bs) zero = not b ∷ bs
toggle (b ∷ bs) (suc i) = b ∷ toggle bs i

-- bytes with the bit at one place turned over: byte q / 8, and in it the place q % 8 from the highest on
abbrev pub flip : List ℕ → ℕ → List ℕ
flip bytes q = slice_set bytes (q / 8) (bit_xor (slice_index bytes (q / 8)) (2 ^ (7 - q % 8)))

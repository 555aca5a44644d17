-- The pad of a width.
use Rattle.std.specs.Prelude.{ℕ, ◌-◌, ◌/◌, ◌^◌}

-- The pad of width n is the first n bits of a 64-bit word, the highest first, read as a number. (Subtraction stops at 0,
-- so that the pad of a width above 64 is the word itself; that of width 0 is 0, since a word is below 2 ^ 64.)
abbrev pub pad : ℕ → ℕ → ℕ
pad n word = word / 2 ^ (64 - n)

-- The limits of frames and of the keys that serve them, each named here and nowhere else.
use Rattle.std.specs.Prelude.{ℕ}

-- the most bytes of a payload; the fewest are one
abbrev pub longest_payload : ℕ
longest_payload = 119

-- the reach of every key that serves an end, in bits: that of the longest text
abbrev pub needed_reach : ℕ
needed_reach = 1016

-- the least width of a key that serves an end
abbrev pub needed_width : ℕ
needed_width = 45

-- The powers of x modulo a generator g, which is x^n plus the terms of c. The leading term is not in c.
use Rattle.std.specs.Prelude.{ℕ, zero, suc, ◌+◌, ◌*◌, ◌/◌, ◌%◌, ◌^◌, ◌<◌, ◌≤◌, List, [], ◌∷◌, bit_xor}
use Rattle.family.specs.Orbits.{iterate}
use Rattle.crc.specs.Polynomials.{Remainder}

-- x * a mod g, where the terms of a are below x^n: a shifted up, with the terms of c in place of a term x^n
unfoldable pub times_x : ℕ → ℕ → ℕ → ℕ
times_x n c a = bit_xor (a * 2 % 2 ^ n) (a * 2 / 2 ^ n % 2 * c)

-- x^k mod g: 1 multiplied by x, k times
abbrev pub power : ℕ → ℕ → ℕ → ℕ
power n c k = iterate (times_x n c) k 1

-- that it is what it is called: x^k mod g is the remainder of x^k by g
abbrev pub PowersAreRemainders : Type 0
PowersAreRemainders = (n c k : ℕ) → 1 ≤ n → c < 2 ^ n → Remainder n (2 ^ n + c) (2 ^ k) (power n c k)

-- x^(low + m - 1) mod g and so on down to x^low mod g: m of them
abbrev pub falling : ℕ → ℕ → ℕ → ℕ → List ℕ
falling n c low zero = []
falling n c low (suc m) = power n c (low + m) ∷ falling n c low m

-- the column at place i of a text of m bits is x^(n + m - 1 - i) mod g
abbrev pub crc_columns : ℕ → ℕ → ℕ → List ℕ
crc_columns n c m = falling n c n m

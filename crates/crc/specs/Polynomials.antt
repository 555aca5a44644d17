-- Polynomials over the field of two elements, as numbers: bit i is the coefficient of x^i. A sum is ⊕, and x^k is 2 ^ k.
use Rattle.std.specs.Prelude.{◌≡◌, ℕ, zero, suc, ◌*◌, ◌/◌, ◌%◌, ◌^◌, ◌<◌, bit_xor}

-- the product of b and the first terms of a: the constant term of a times b, plus x times what the terms above it give
unfoldable pub clmul_terms : ℕ → ℕ → ℕ → ℕ
clmul_terms zero a b = 0
clmul_terms (suc terms) a b = bit_xor (a % 2 * b) (clmul_terms terms (a / 2) b * 2)

-- the product of a and b, multiplied without carries; a number a has no term at x^a or above
abbrev pub clmul : ℕ → ℕ → ℕ
clmul a b = clmul_terms a a b

-- r is the remainder of a by a polynomial g of degree n: a is a multiple of g plus r, and all terms of r are below x^n
abbrev pub Remainder : ℕ → ℕ → ℕ → ℕ → Type 0
Remainder n g a r = ((q : ℕ) × (a ≡ bit_xor (clmul q g) r)) × (r < 2 ^ n)

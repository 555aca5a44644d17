-- The hexadecimal digits.
use Rattle.std.specs.Prelude.{ℕ, ◌+◌, ◌-◌, cond, ◌&&◌, Some, None, Option, nat_le}

-- What a symbol stands for, by its ASCII code: 0 to 9 and a to f are digits, and nothing else is.
abbrev pub hex_digit : ℕ → Option ℕ
hex_digit symbol =
    cond (nat_le 48 symbol && nat_le symbol 57) (Some (symbol - 48))
    (cond (nat_le 97 symbol && nat_le symbol 102) (Some (symbol - 97 + 10)) None)

-- The words of the two pad sources.
use Rattle.std.specs.Prelude.{ℕ, ◌+◌, ◌-◌, ◌*◌, ◌^◌, cond, ◌&&◌, List, length, Some, None, Option, nat_le, nat_lt, slice_index}
use Rattle.chacha20.specs.Block.{block}

-- A book of words covers the slots 1, 2, 3 and on, as far as it has words; slot 1 has the first.
abbrev pub book_words : List ℕ → ℕ → Option ℕ
book_words written slot = cond (nat_lt 0 slot && nat_le slot (length written)) (Some (slice_index written (slot - 1))) None

-- The number that the first eight bytes write, the highest byte first.
abbrev pub first_eight : List ℕ → ℕ
first_eight bytes =
    slice_index bytes 0 * 256 ^ 7 + slice_index bytes 1 * 256 ^ 6 + slice_index bytes 2 * 256 ^ 5 + slice_index bytes 3 * 256 ^ 4
    + slice_index bytes 4 * 256 ^ 3 + slice_index bytes 5 * 256 ^ 2 + slice_index bytes 6 * 256 + slice_index bytes 7

-- A key and a nonce cover the slots 1 to 2 ^ 32 - 1. The word of a slot is the first eight bytes of the ChaCha20 block
-- with the slot as block counter.
abbrev pub cipher_words : List ℕ → List ℕ → ℕ → Option ℕ
cipher_words key nonce slot = cond (nat_lt 0 slot && nat_lt slot (2 ^ 32)) (Some (first_eight (block key nonce slot))) None

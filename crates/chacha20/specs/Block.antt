-- The ChaCha20 block function of RFC 8439, to be held beside its sections 2.1 to 2.3.
-- A word is a number below 2 ^ 32; a state is a list of sixteen words; bytes are a list of numbers below 256.
use Rattle.std.specs.Prelude.{ℕ, zero, suc, ◌+◌, ◌-◌, ◌*◌, ◌/◌, ◌%◌, ◌^◌, List, [], ◌∷◌, bit_or, bit_xor, slice_index, slice_set}

-- The sum of two words, without its carry: + in the RFC.
abbrev pub plus : ℕ → ℕ → ℕ
plus a b = (a + b) % 2 ^ 32

-- A word rotated to the left by n places, n from 1 to 31: <<< in the RFC.
abbrev pub rotl : ℕ → ℕ → ℕ
rotl x n = bit_or ((x * 2 ^ n) % 2 ^ 32) (x / 2 ^ (32 - n))

-- Section 2.1: the quarter round of four words.
abbrev pub quarter_round : ℕ → ℕ → ℕ → ℕ → ℕ × ℕ × ℕ × ℕ
quarter_round a b c d =
    let a1 : ℕ = plus a b in
    let d1 : ℕ = rotl (bit_xor d a1) 16 in
    let c1 : ℕ = plus c d1 in
    let b1 : ℕ = rotl (bit_xor b c1) 12 in
    let a2 : ℕ = plus a1 b1 in
    let d2 : ℕ = rotl (bit_xor d1 a2) 8 in
    let c2 : ℕ = plus c1 d2 in
    let b2 : ℕ = rotl (bit_xor b1 c2) 7 in
    (a2, b2, c2, d2)

-- Four words put back at four places of the state.
abbrev pub put_back : List ℕ → ℕ → ℕ → ℕ → ℕ → ℕ × ℕ × ℕ × ℕ → List ℕ
put_back s i j k l q = slice_set (slice_set (slice_set (slice_set s i q.0) j q.1) k q.2) l q.3

-- Section 2.2: the quarter round on the words at four places of the state.
unfoldable pub quarter_round_at : List ℕ → ℕ → ℕ → ℕ → ℕ → List ℕ
quarter_round_at s i j k l = put_back s i j k l (quarter_round (slice_index s i) (slice_index s j) (slice_index s k) (slice_index s l))

-- Section 2.3: a column round, a diagonal round, and n times both.
abbrev pub column_round : List ℕ → List ℕ
column_round s =
    quarter_round_at (quarter_round_at (quarter_round_at (quarter_round_at s 0 4 8 12) 1 5 9 13) 2 6 10 14) 3 7 11 15

abbrev pub diagonal_round : List ℕ → List ℕ
diagonal_round s =
    quarter_round_at (quarter_round_at (quarter_round_at (quarter_round_at s 0 5 10 15) 1 6 11 12) 2 7 8 13) 3 4 9 14

unfoldable pub double_rounds : ℕ → List ℕ → List ℕ
double_rounds zero s = s
double_rounds (suc n) s = diagonal_round (column_round (double_rounds n s))

-- The word in four bytes from place i on, the lowest byte first.
abbrev pub word_at : List ℕ → ℕ → ℕ
word_at bytes i =
    slice_index bytes i + slice_index bytes (i + 1) * 256 + slice_index bytes (i + 2) * 65536 + slice_index bytes (i + 3) * 16777216

-- Section 2.3: the state that a block starts from: four constants, eight words of key, the block counter, three words of nonce.
abbrev pub initial_state : List ℕ → List ℕ → ℕ → List ℕ
initial_state key nonce counter =
    0x61707865 ∷ 0x3320646e ∷ 0x79622d32 ∷ 0x6b206574
    ∷ word_at key 0 ∷ word_at key 4 ∷ word_at key 8 ∷ word_at key 12
    ∷ word_at key 16 ∷ word_at key 20 ∷ word_at key 24 ∷ word_at key 28
    ∷ counter ∷ word_at nonce 0 ∷ word_at nonce 4 ∷ word_at nonce 8 ∷ []

-- The sums of the words of two states, place by place.
unfoldable pub sums : List ℕ → List ℕ → List ℕ
sums [] ys = []
sums (x ∷ xs) [] = []
sums (x ∷ xs) (y ∷ ys) = plus x y ∷ sums xs ys

-- The words written one after the other in four bytes each, the lowest byte first.
unfoldable pub serialized : List ℕ → List ℕ
serialized [] = []
serialized (w ∷ ws) = w % 256 ∷ w / 256 % 256 ∷ w / 65536 % 256 ∷ w / 16777216 % 256 ∷ serialized ws

-- Section 2.3: the block. Twenty rounds are ten double rounds; the initial state is added to what they give.
abbrev pub block : List ℕ → List ℕ → ℕ → List ℕ
block key nonce counter =
    let s : List ℕ = initial_state key nonce counter in
    serialized (sums (double_rounds 10 s) s)

-- Bytes and their bits: bytes are known by their bits, and numbers written as bytes have the bits of the number.
use Rattle.std.proofs.Common.{◌≡◌, ℕ, zero, suc, ◌+◌, ◌-◌, ◌*◌, ◌/◌, ◌%◌, ◌^◌, ◌<◌, Bool, List, [], ◌∷◌, ◌++◌, length, get_or, take, drop, sym, refl, ap, ◌∙◌, ap₂, append_assoc, append-nil, mod-eq_of_lt, arith, length-set, take_at, drop_at}
use lib.Bits.{bit_xor, xor_lt}
use Rattle.std.proofs.lemmas.Nat.{pow_below, shr_high}
use Rattle.std.proofs.ByRecursion.{All-set, All-get_or}
use Rattle.bits.specs.Bits.{Bytes, bits_of, bits, flip}
use Rattle.bits.specs.Bytes.{bytes_of}
use Rattle.bits.specs.Columns.{picked, units}
use Rattle.bits.proofs.Runs.{length-bits_of, length-bits, picked-units, bits_of-mod, bits_of-add, bits_of-low}

byte_value : (b : ℕ) → b < 256 → picked (bits_of 8 b) (units 8) ≡ b
byte_value b h = picked-units 8 b ∙ mod-eq_of_lt h

-- bytes with the same bits are the same
pub bytes_from_bits : (xs ys : List ℕ) → Bytes xs → Bytes ys → bits xs ≡ bits ys → xs ≡ ys
bytes_from_bits [] [] hx hy e = refl
bytes_from_bits [] (y ∷ ys) hx hy e = absurd (omega (arith, ap length e, length-bits (y ∷ ys)))
bytes_from_bits (x ∷ xs) [] hx hy e = absurd (omega (arith, ap length e, length-bits (x ∷ xs)))
bytes_from_bits (x ∷ xs) (y ∷ ys) hx hy e =
    let f : bits_of 8 x ≡ bits_of 8 y =
    sym (take_at (bits_of 8 x) (bits xs) 8 (length-bits_of 8 x)) ∙ ap (take 8) e ∙ take_at (bits_of 8 y) (bits ys) 8 (length-bits_of 8 y) in
    let g : bits xs ≡ bits ys =
    sym (drop_at (bits_of 8 x) (bits xs) 8 (length-bits_of 8 x)) ∙ ap (drop 8) e ∙ drop_at (bits_of 8 y) (bits ys) 8 (length-bits_of 8 y) in
    ap₂ (λ (b : ℕ) (r : List ℕ). b ∷ r)
    (sym (byte_value x hx.0) ∙ ap (λ (r : List Bool). picked r (units 8)) f ∙ byte_value y hy.0)
    (bytes_from_bits xs ys hx.1 hy.1 g)

-- ---- a number written as bytes

pub length-bytes_of : (k x : ℕ) → length (bytes_of k x) ≡ k
length-bytes_of zero x = refl
length-bytes_of (suc k) x = ap suc (length-bytes_of k x)

pub bytes_of-bytes : (k x : ℕ) → Bytes (bytes_of k x)
bytes_of-bytes zero x = tt
bytes_of-bytes (suc k) x = (omega arith, bytes_of-bytes k x)

pub bits-bytes_of : (k x : ℕ) → bits (bytes_of k x) ≡ bits_of (8 * k) x
unfolding bits_of
bits-bytes_of zero x = refl
bits-bytes_of (suc k) x =
    ap₂ (λ (a b : List Bool). a ++ b) (bits_of-mod 0 8 (x / 2 ^ (8 * k))) (bits-bytes_of k x)
    ∙ sym (bits_of-add 8 (8 * k) x)
    ∙ ap (λ (n : ℕ). bits_of n x) (omega arith)

-- ---- bytes read as one number

-- the number that bytes write behind a number, the highest byte first
abbrev pub number_of : ℕ → List ℕ → ℕ
number_of v [] = v
number_of v (b ∷ bs) = number_of (v * 256 + b) bs

pub bits-number_of : (v k : ℕ) (bs : List ℕ) → Bytes bs → bits_of k v ++ bits bs ≡ bits_of (k + 8 * length bs) (number_of v bs)
bits-number_of v k [] h = append-nil (bits_of k v) ∙ ap (λ (n : ℕ). bits_of n v) (omega arith)
bits-number_of v k (b ∷ bs) h =
    sym (append_assoc (bits_of k v) (bits_of 8 b) (bits bs))
    ∙ ap (λ (r : List Bool). r ++ bits bs)
    (ap₂ (λ (x y : List Bool). x ++ y) (ap (bits_of k) (sym (shr_high v 8 b h.0))) (sym (bits_of-low 8 v b h.0))
    ∙ sym (bits_of-add k 8 (v * 256 + b)))
    ∙ bits-number_of (v * 256 + b) (k + 8) bs h.1
    ∙ ap (λ (n : ℕ). bits_of n (number_of v (b ∷ bs))) (omega arith)

-- ---- one bit of bytes turned over

pub length-flip : (bs : List ℕ) (q : ℕ) → length (flip bs q) ≡ length bs
length-flip bs q = length-set bs (q / 8) (bit_xor (get_or bs (q / 8) 0) (2 ^ (7 - q % 8)))

pub bytes_flip : (bs : List ℕ) (q : ℕ) → Bytes bs → q / 8 < length bs → Bytes (flip bs q)
bytes_flip bs q hb h =
    All-set (λ b. b < 256) bs (q / 8) (bit_xor (get_or bs (q / 8) 0) (2 ^ (7 - q % 8)))
    (xor_lt 8 (get_or bs (q / 8) 0) (2 ^ (7 - q % 8)) (All-get_or (λ b. b < 256) bs (q / 8) 0 h hb) (pow_below (7 - q % 8) 8 (omega arith)))
    hb

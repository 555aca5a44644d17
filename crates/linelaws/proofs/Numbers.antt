-- Numbers in bytes, both ways: bytes are known by their bits.
use Rattle.std.proofs.Common.{◌≡◌, ℕ, zero, suc, ◌+◌, ◌*◌, ◌^◌, ◌<◌, Bool, List, [], ◌∷◌, length, sym, refl, ap, ◌∙◌, mod-eq_of_lt, pow-suc, arith}
use Rattle.std.specs.Int.Digits.{number_from_digits, number_from_digits_after}
use Rattle.std.proofs.lemmas.Nat.{pow-add}
use Rattle.std.proofs.lemmas.Int.Digits.{number_lt}
use Rattle.bits.specs.Bits.{Bytes, bits, bits_of}
use Rattle.bits.specs.Bytes.{bytes_of}
use Rattle.bits.specs.Columns.{picked, units}
use Rattle.bits.proofs.Runs.{picked-units}
use Rattle.bits.proofs.BytesOfNumbers.{bytes_from_bits, length-bytes_of, bytes_of-bytes, bits-bytes_of, number_of, bits-number_of}

same_number : (v : ℕ) (bs : List ℕ) → number_of v bs ≡ number_from_digits_after 256 v bs
same_number v [] = refl
same_number v (b ∷ bs) = same_number (v * 256 + b) bs

bits-number : (bs : List ℕ) → Bytes bs → bits bs ≡ bits_of (8 * length bs) (number_from_digits 256 bs)
unfolding bits_of
bits-number bs h =
    let e : 0 + 8 * length bs ≡ 8 * length bs = omega arith in
    bits-number_of 0 0 bs h ∙ ap (λ (n : ℕ). bits_of n (number_of 0 bs)) e ∙ ap (λ (n : ℕ). bits_of (8 * length bs) n) (same_number 0 bs)

-- ---- how large

pow_256 : (k : ℕ) → 256 ^ k ≡ 2 ^ (8 * k)
pow_256 zero = refl
pow_256 (suc k) =
    let e : 8 * k + 8 ≡ 8 * suc k = omega arith in
    pow-suc 256 k ∙ ap (λ z. z * 256) (pow_256 k) ∙ sym (pow-add 2 (8 * k) 8) ∙ ap (λ n. 2 ^ n) e

pub number_fits : (k : ℕ) (bs : List ℕ) → length bs ≡ k → Bytes bs → number_from_digits 256 bs < 2 ^ (8 * k)
number_fits k bs e u =
    let p : 256 ^ length bs ≡ 2 ^ (8 * k) = ap (λ n. 256 ^ n) e ∙ pow_256 k in
    omega (arith, p, number_lt 256 bs u)

-- ---- both ways

known_by_bits : (n x y : ℕ) → x < 2 ^ n → y < 2 ^ n → bits_of n x ≡ bits_of n y → x ≡ y
known_by_bits n x y hx hy e =
    sym (picked-units n x ∙ mod-eq_of_lt hx) ∙ ap (λ (r : List Bool). picked r (units n)) e ∙ picked-units n y ∙ mod-eq_of_lt hy

pub number_bytes_of : (k v : ℕ) → v < 2 ^ (8 * k) → number_from_digits 256 (bytes_of k v) ≡ v
number_bytes_of k v h =
    let l = length-bytes_of k v in
    let u = bytes_of-bytes k v in
    known_by_bits (8 * k) (number_from_digits 256 (bytes_of k v)) v (number_fits k (bytes_of k v) l u) h
    (ap (λ n. bits_of (8 * n) (number_from_digits 256 (bytes_of k v))) (sym l) ∙ sym (bits-number (bytes_of k v) u) ∙ bits-bytes_of k v)

pub bytes_of-number : (k : ℕ) (bs : List ℕ) → length bs ≡ k → Bytes bs → bytes_of k (number_from_digits 256 bs) ≡ bs
bytes_of-number k bs e u =
    bytes_from_bits (bytes_of k (number_from_digits 256 bs)) bs (bytes_of-bytes k (number_from_digits 256 bs)) u
    (bits-bytes_of k (number_from_digits 256 bs) ∙ ap (λ n. bits_of (8 * n) (number_from_digits 256 bs)) (sym e) ∙ sym (bits-number bs u))

-- The bits of numbers and bytes, one by one.
use Rattle.std.proofs.Common.{◌≡◌, ℕ, zero, suc, ◌+◌, ◌-◌, ◌*◌, ◌/◌, ◌%◌, ◌^◌, ◌<◌, ◌≤◌, Bool, true, false, cond, eqb, List, [], ◌∷◌, ◌++◌, length, get_or, set, sym, refl, ap, ◌∙◌, subst, ap₂, append_assoc, le_of_suc-le-suc, mod-lt, mod-eq_of_lt, suc-add, zero-add, arith, length-append}
use native.Mathlib.Nat.{suc_inj}
use lib.Bits.{bit_xor, xor_shifted}
use Rattle.std.proofs.lemmas.Nat.{pow_pos, mod-pow-add, field_of, shr_high, shr-shr, mod_low}
use Rattle.std.proofs.lemmas.List.{get_or_append_left, get_or-append-add}
use Rattle.bits.specs.Bits.{Bytes, bits_of, bits, toggle, flip}
use Rattle.bits.specs.Columns.{picked, units}
use Rattle.bits.proofs.Picks.{picked-lt, picked-toggle, length-toggle}
use Rattle.bits.proofs.UnitColumns.{get_or-units, units-below}

pub length-bits_of : (n x : ℕ) → length (bits_of n x) ≡ n
unfolding bits_of
length-bits_of zero x = refl
length-bits_of (suc n) x = ap suc (length-bits_of n x)

pub length-bits : (bs : List ℕ) → length (bits bs) ≡ 8 * length bs
length-bits [] = refl
length-bits (b ∷ bs) = length-append (bits_of 8 b) (bits bs) ∙ omega (arith, length-bits_of 8 b, length-bits bs)

pub bits-append : (xs ys : List ℕ) → bits (xs ++ ys) ≡ bits xs ++ bits ys
bits-append [] ys = refl
bits-append (x ∷ xs) ys = ap (λ (r : List Bool). bits_of 8 x ++ r) (bits-append xs ys) ∙ sym (append_assoc (bits_of 8 x) (bits xs) (bits ys))

-- ---- which bit stands at a place

pub bits_of-at : (n x r : ℕ) → r < n → get_or (bits_of n x) r false ≡ eqb (x / 2 ^ (n - 1 - r) % 2) 1
unfolding bits_of
bits_of-at zero x r h = absurd (omega arith)
bits_of-at (suc n) x zero h = ap (λ k. eqb (x / 2 ^ k % 2) 1) (omega arith)
bits_of-at (suc n) x (suc r) h = bits_of-at n x r (omega arith) ∙ ap (λ k. eqb (x / 2 ^ k % 2) 1) (omega arith)

in_byte : (bs : List ℕ) (a r : ℕ) → a < length bs → r < 8 → get_or (bits bs) (8 * a + r) false ≡ eqb (get_or bs a 0 / 2 ^ (7 - r) % 2) 1
in_byte [] a r ha h = absurd (omega arith)
in_byte (b ∷ bs) zero r ha h =
    let e : 8 * 0 + r ≡ r = omega arith in
    ap (λ i. get_or (bits (b ∷ bs)) i false) e ∙ get_or_append_left (bits_of 8 b) (bits bs) false r (omega (arith, length-bits_of 8 b))
    ∙ bits_of-at 8 b r h
in_byte (b ∷ bs) (suc a) r ha h =
    let e : 8 * suc a + r ≡ length (bits_of 8 b) + (8 * a + r) = omega (arith, length-bits_of 8 b) in
    ap (λ i. get_or (bits (b ∷ bs)) i false) e ∙ get_or-append-add (bits_of 8 b) (bits bs) (8 * a + r) false
    ∙ in_byte bs a r (le_of_suc-le-suc ha) h

pub bits_at : (bs : List ℕ) (q : ℕ) → q / 8 < length bs → get_or (bits bs) q false ≡ eqb (get_or bs (q / 8) 0 / 2 ^ (7 - q % 8) % 2) 1
bits_at bs q h =
    let e : q ≡ 8 * (q / 8) + q % 8 = omega arith in
    ap (λ i. get_or (bits bs) i false) e ∙ in_byte bs (q / 8) (q % 8) h (omega arith)

-- ---- a number and its bits

digit_value : (d k : ℕ) → d < 2 → cond (eqb d 1) (2 ^ k) 0 ≡ d * 2 ^ k
digit_value zero k h = omega arith
digit_value (suc zero) k h = omega arith
digit_value (suc (suc d)) k h = absurd (omega arith)

pub picked-units : (n x : ℕ) → picked (bits_of n x) (units n) ≡ x % 2 ^ n
unfolding bits_of
picked-units zero x = omega arith
picked-units (suc k) x =
    let d = x / 2 ^ k % 2 in
    ap₂ bit_xor (digit_value d k (omega arith)) (picked-units k x)
    ∙ xor_shifted d k (x % 2 ^ k) (mod-lt x (pow_pos k))
    ∙ sym (mod-pow-add x 1 k)
    ∙ ap (λ (n : ℕ). x % 2 ^ n) (omega arith)

mod_two : (y j : ℕ) → y % 2 ^ suc j % 2 ≡ y % 2
mod_two y j =
    let e : y % 2 ^ (j + 1) ≡ (y / 2 ^ 1 % 2 ^ j) * 2 ^ 1 + y % 2 ^ 1 = mod-pow-add y j 1 in
    let s : y % 2 ^ suc j ≡ y % 2 ^ (j + 1) = ap (λ (n : ℕ). y % 2 ^ n) (omega arith) in
    omega arith

-- the k low bits are those of any number that agrees in them
pub bits_of-mod : (j k x : ℕ) → bits_of k (x % 2 ^ (j + k)) ≡ bits_of k x
unfolding bits_of
bits_of-mod j zero x = refl
bits_of-mod j (suc k) x =
    let e : j + suc k ≡ suc j + k = omega arith in
    ap (λ (n : ℕ). bits_of (suc k) (x % 2 ^ n)) e
    ∙ ap₂ (λ (a : ℕ) (r : List Bool). eqb a 1 ∷ r)
    (ap (λ (y : ℕ). y % 2) (field_of x (suc j) k) ∙ mod_two (x / 2 ^ k) j)
    (bits_of-mod (suc j) k x)

pub bits_of-low : (k hi r : ℕ) → r < 2 ^ k → bits_of k (hi * 2 ^ k + r) ≡ bits_of k r
bits_of-low k hi r h =
    sym (bits_of-mod 0 k (hi * 2 ^ k + r))
    ∙ ap (λ (n : ℕ). bits_of k ((hi * 2 ^ k + r) % 2 ^ n)) (zero-add k)
    ∙ ap (bits_of k) (mod_low hi k r h)

-- the high bits come first
pub bits_of-add : (j k x : ℕ) → bits_of (j + k) x ≡ bits_of j (x / 2 ^ k) ++ bits_of k x
unfolding bits_of
bits_of-add zero k x = ap (λ (n : ℕ). bits_of n x) (zero-add k)
bits_of-add (suc j) k x =
    ap (λ (n : ℕ). bits_of n x) (suc-add j k)
    ∙ ap₂ (λ (a : ℕ) (r : List Bool). eqb (a % 2) 1 ∷ r)
    (ap (λ (n : ℕ). x / 2 ^ n) (omega arith) ∙ sym (shr-shr x k j))
    (bits_of-add j k x)

digit_of : (b : Bool) (k : ℕ) → cond b (2 ^ k) 0 ≡ cond b 1 0 * 2 ^ k
digit_of true k = omega arith
digit_of false k = omega arith

digit_back : (b : Bool) → eqb (cond b 1 0 % 2) 1 ≡ b
digit_back true = refl
digit_back false = refl

pub bits_of-picked : (n : ℕ) (bs : List Bool) → length bs ≡ n → bits_of n (picked bs (units n)) ≡ bs
unfolding bits_of
bits_of-picked zero [] e = refl
bits_of-picked zero (b ∷ bs) e = absurd (omega arith)
bits_of-picked (suc k) [] e = absurd (omega arith)
bits_of-picked (suc k) (b ∷ bs) e =
    let r = picked bs (units k) in
    let d : ℕ = cond b 1 0 in
    let lt : r < 2 ^ k = picked-lt k bs (units k) (units-below k k (omega arith)) in
    let v : bit_xor (cond b (2 ^ k) 0) r ≡ d * 2 ^ k + r = ap (λ (a : ℕ). bit_xor a r) (digit_of b k) ∙ xor_shifted d k r lt in
    ap (bits_of (suc k)) v
    ∙ ap₂ (λ (a : ℕ) (t : List Bool). eqb (a % 2) 1 ∷ t) (shr_high d k r lt) (bits_of-low k d r lt ∙ bits_of-picked k bs (suc_inj e))
    ∙ ap (λ (x : Bool). x ∷ bs) (digit_back b)

-- ---- one bit turned over

pub toggle-left : (xs ys : List Bool) (i : ℕ) → i < length xs → toggle (xs ++ ys) i ≡ toggle xs i ++ ys
toggle-left [] ys i h = absurd (omega arith)
toggle-left (x ∷ xs) ys zero h = refl
toggle-left (x ∷ xs) ys (suc i) h = ap (λ (r : List Bool). x ∷ r) (toggle-left xs ys i (le_of_suc-le-suc h))

pub toggle-right : (xs ys : List Bool) (i : ℕ) → toggle (xs ++ ys) (length xs + i) ≡ xs ++ toggle ys i
toggle-right [] ys i = ap (toggle ys) (zero-add i)
toggle-right (x ∷ xs) ys i = ap (toggle (x ∷ (xs ++ ys))) (suc-add (length xs) i) ∙ ap (λ (r : List Bool). x ∷ r) (toggle-right xs ys i)

pub toggle-past : (xs : List Bool) (i : ℕ) → length xs ≤ i → toggle xs i ≡ xs
toggle-past [] i h = refl
toggle-past (x ∷ xs) zero h = absurd (omega arith)
toggle-past (x ∷ xs) (suc i) h = ap (λ (r : List Bool). x ∷ r) (toggle-past xs i (le_of_suc-le-suc h))

pub bits_of-flip : (n x r : ℕ) → x < 2 ^ n → r < n → bits_of n (bit_xor x (2 ^ (n - 1 - r))) ≡ toggle (bits_of n x) r
bits_of-flip n x r hx h =
    ap (bits_of n)
    (ap₂ bit_xor (sym (mod-eq_of_lt hx) ∙ sym (picked-units n x)) (sym (get_or-units n r h))
    ∙ sym (picked-toggle (bits_of n x) (units n) r (subst (λ (k : ℕ). r < k) (sym (length-bits_of n x)) h)))
    ∙ bits_of-picked n (toggle (bits_of n x) r) (length-toggle (bits_of n x) r ∙ length-bits_of n x)

flip-in_byte : (bs : List ℕ) (a r : ℕ) → Bytes bs → a < length bs → r < 8
    → bits (set bs a (bit_xor (get_or bs a 0) (2 ^ (7 - r)))) ≡ toggle (bits bs) (8 * a + r)
flip-in_byte [] a r hb ha h = absurd (omega arith)
flip-in_byte (b ∷ bs) zero r hb ha h =
    ap (λ (l : List Bool). l ++ bits bs) (bits_of-flip 8 b r hb.0 h)
    ∙ sym (toggle-left (bits_of 8 b) (bits bs) r (subst (λ (k : ℕ). r < k) (sym (length-bits_of 8 b)) h))
    ∙ ap (toggle (bits_of 8 b ++ bits bs)) (omega arith)
flip-in_byte (b ∷ bs) (suc a) r hb ha h =
    ap (λ (l : List Bool). bits_of 8 b ++ l) (flip-in_byte bs a r hb.1 (omega arith) h)
    ∙ sym (toggle-right (bits_of 8 b) (bits bs) (8 * a + r))
    ∙ ap (toggle (bits_of 8 b ++ bits bs)) (omega (arith, length-bits_of 8 b))

pub bits-flip : (bs : List ℕ) (q : ℕ) → Bytes bs → q / 8 < length bs → bits (flip bs q) ≡ toggle (bits bs) q
bits-flip bs q hb h = flip-in_byte bs (q / 8) (q % 8) hb h (omega arith) ∙ ap (toggle (bits bs)) (omega arith)

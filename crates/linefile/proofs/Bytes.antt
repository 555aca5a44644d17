-- The numbers of one, two, four and eight bytes, as `from_be_bytes` tells them.
use Rattle.std.proofs.Common.{◌≡◌, ℕ, ◌+◌, ◌*◌, ◌≤◌, List, [], ◌∷◌, length, get_or, take, sym, ap, ◌∙◌, arith}
use Rattle.std.specs.Int.Digits.{number_from_digits}
use Rattle.std.proofs.lemmas.List.{length-take-le, take-take}
use Rattle.linefile.specs.Parsed.{Taken}

pub be1 : (bs : List ℕ) → 1 ≤ length bs → number_from_digits 256 (take 1 bs) ≡ get_or bs 0 0
be1 [] h = absurd (omega arith)
be1 (a ∷ r) h = omega arith

pub be2 : (bs : List ℕ) → 2 ≤ length bs → number_from_digits 256 (take 2 bs) ≡ get_or bs 0 0 * 256 + get_or bs 1 0
be2 [] h = absurd (omega arith)
be2 (a ∷ []) h = absurd (omega arith)
be2 (a ∷ (b ∷ r)) h = omega arith

pub be4 : (bs : List ℕ) → 4 ≤ length bs → number_from_digits 256 (take 4 bs) ≡ get_or bs 0 0 * 16777216 + get_or bs 1 0 * 65536 + get_or bs 2 0 * 256 + get_or bs 3 0
be4 [] h = absurd (omega arith)
be4 (a ∷ []) h = absurd (omega arith)
be4 (a ∷ (b ∷ [])) h = absurd (omega arith)
be4 (a ∷ (b ∷ (c ∷ []))) h = absurd (omega arith)
be4 (a ∷ (b ∷ (c ∷ (d ∷ r)))) h = omega arith

pub be8 : (bs : List ℕ) → 8 ≤ length bs → number_from_digits 256 (take 8 bs) ≡ get_or bs 0 0 * 72057594037927936 + get_or bs 1 0 * 281474976710656 + get_or bs 2 0 * 1099511627776 + get_or bs 3 0 * 4294967296 + get_or bs 4 0 * 16777216 + get_or bs 5 0 * 65536 + get_or bs 6 0 * 256 + get_or bs 7 0
be8 [] h = absurd (omega arith)
be8 (a ∷ []) h = absurd (omega arith)
be8 (a ∷ (b ∷ [])) h = absurd (omega arith)
be8 (a ∷ (b ∷ (c ∷ []))) h = absurd (omega arith)
be8 (a ∷ (b ∷ (c ∷ (d ∷ [])))) h = absurd (omega arith)
be8 (a ∷ (b ∷ (c ∷ (d ∷ (e ∷ []))))) h = absurd (omega arith)
be8 (a ∷ (b ∷ (c ∷ (d ∷ (e ∷ (f ∷ [])))))) h = absurd (omega arith)
be8 (a ∷ (b ∷ (c ∷ (d ∷ (e ∷ (f ∷ (g ∷ []))))))) h = absurd (omega arith)
be8 (a ∷ (b ∷ (c ∷ (d ∷ (e ∷ (f ∷ (g ∷ (i ∷ r)))))))) h = omega arith

-- The bytes of a field are its number.
pub numbered : {size at : ℕ} {bs b : List ℕ} {place : ℕ} {rest : List ℕ} {n m : ℕ} → Taken size at bs b place rest → (size ≤ length b → number_from_digits 256 (take size b) ≡ m) → n ≡ m → n ≡ number_from_digits 256 b
numbered {size = size} {bs = bs} {b = b} t be e =
    let h = t.there in
    let l = ap length t.value ∙ length-take-le size bs h in
    let same : take size b ≡ b = ap (take size) t.value ∙ take-take size size bs (omega arith) ∙ sym t.value in
    e ∙ sym (be (omega arith)) ∙ ap (number_from_digits 256) same

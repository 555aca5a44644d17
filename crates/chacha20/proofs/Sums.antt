-- The state while the sums are being written into it, place by place.
use Rattle.std.proofs.Common.{◌≡◌, ℕ, zero, suc, ◌<◌, List, [], ◌∷◌, length, get_or, set, refl, ap, le_of_suc-le-suc, not-suc-le-zero, arith}
use Rattle.chacha20.specs.Block.{plus, sums}

-- The first i words are sums already, and the others are as they were.
abbrev pub summed : ℕ → List ℕ → List ℕ → List ℕ
summed zero xs ys = xs
summed (suc i) [] ys = []
summed (suc i) (x ∷ xs) [] = x ∷ xs
summed (suc i) (x ∷ xs) (y ∷ ys) = plus x y ∷ summed i xs ys

pub summed-more : (i : ℕ) (xs ys : List ℕ) → i < length xs → i < length ys
    → set (summed i xs ys) i (plus (get_or (summed i xs ys) i 0) (get_or ys i 0)) ≡ summed (suc i) xs ys
summed-more zero [] ys h k = absurd (not-suc-le-zero h)
summed-more zero (x ∷ xs) [] h k = absurd (not-suc-le-zero k)
summed-more zero (x ∷ xs) (y ∷ ys) h k = refl
summed-more (suc i) [] ys h k = absurd (not-suc-le-zero h)
summed-more (suc i) (x ∷ xs) [] h k = absurd (not-suc-le-zero k)
summed-more (suc i) (x ∷ xs) (y ∷ ys) h k =
    ap (λ zs. plus x y ∷ zs) (summed-more i xs ys (le_of_suc-le-suc h) (le_of_suc-le-suc k))

pub summed-all : (i : ℕ) (xs ys : List ℕ) → length xs ≡ i → length ys ≡ i → summed i xs ys ≡ sums xs ys
unfolding sums
summed-all zero [] ys h k = refl
summed-all zero (x ∷ xs) ys h k = absurd (omega arith)
summed-all (suc i) [] ys h k = refl
summed-all (suc i) (x ∷ xs) [] h k = absurd (omega arith)
summed-all (suc i) (x ∷ xs) (y ∷ ys) h k =
    ap (λ zs. plus x y ∷ zs) (summed-all i xs ys (omega arith) (omega arith))

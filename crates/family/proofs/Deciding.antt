-- Whether columns are all different and none zero, as a test that computes.
use Rattle.std.proofs.Common.{◌≡◌, ℕ, zero, suc, ◌<◌, Bool, true, false, not, ◌&&◌, eqb, ◌≢◌, List, [], ◌∷◌, length, get_or, refl, arith}
use Rattle.std.proofs.lemmas.Bool.{and_parts, and_from, not-true, not_from_false, eqb-false, ne_eqb, both_ways}
use Rattle.family.specs.Meaning.{Separate}

abbrev pub absent : ℕ → List ℕ → Bool
absent x [] = true
absent x (y ∷ ys) = not (eqb x y) && absent x ys

abbrev pub separate : List ℕ → Bool
separate [] = true
separate (x ∷ xs) = not (eqb x 0) && (absent x xs && separate xs)

absent-true : (x : ℕ) (ys : List ℕ) → absent x ys ≡ true → (j : ℕ) → j < length ys → x ≢ get_or ys j 0
absent-true x [] e j h = absurd (omega arith)
absent-true x (y ∷ ys) e zero h = eqb-false x y (not-true (eqb x y) (and_parts (not (eqb x y)) (absent x ys) e).0)
absent-true x (y ∷ ys) e (suc j) h = absent-true x ys (and_parts (not (eqb x y)) (absent x ys) e).1 j (omega arith)

true_absent : (x : ℕ) (ys : List ℕ) → ((j : ℕ) → j < length ys → x ≢ get_or ys j 0) → absent x ys ≡ true
true_absent x [] f = refl
true_absent x (y ∷ ys) f =
    and_from (not (eqb x y)) (absent x ys) (not_from_false (eqb x y) (ne_eqb x y (f 0 (omega arith)))) (true_absent x ys (λ j h. f (suc j) (omega arith)))

separate-cons : (x : ℕ) (xs : List ℕ) → x ≢ 0 → ((j : ℕ) → j < length xs → x ≢ get_or xs j 0) → Separate xs → Separate (x ∷ xs)
separate-cons x xs z away s = (none, differ)
  where
    none : (i : ℕ) → i < length (x ∷ xs) → get_or (x ∷ xs) i 0 ≢ 0
    none zero h = z
    none (suc i) h = s.0 i (omega arith)

    differ : (i j : ℕ) → i < j → j < length (x ∷ xs) → get_or (x ∷ xs) i 0 ≢ get_or (x ∷ xs) j 0
    differ zero zero l h = absurd (omega arith)
    differ zero (suc j) l h = away j (omega arith)
    differ (suc i) zero l h = absurd (omega arith)
    differ (suc i) (suc j) l h = s.1 i j (omega arith) (omega arith)

pub separate-true : (xs : List ℕ) → separate xs ≡ true → Separate xs
separate-true [] e = ((λ i h. absurd (omega arith)), (λ i j l h. absurd (omega arith)))
separate-true (x ∷ xs) e =
    let outer = and_parts (not (eqb x 0)) (absent x xs && separate xs) e in
    let inner = and_parts (absent x xs) (separate xs) outer.1 in
    separate-cons x xs (eqb-false x 0 (not-true (eqb x 0) outer.0)) (absent-true x xs inner.0) (separate-true xs inner.1)

true_separate : (xs : List ℕ) → Separate xs → separate xs ≡ true
true_separate [] s = refl
true_separate (x ∷ xs) s =
    and_from (not (eqb x 0)) (absent x xs && separate xs) (not_from_false (eqb x 0) (ne_eqb x 0 (s.0 0 (omega arith))))
    (and_from (absent x xs) (separate xs) (true_absent x xs (λ j h. s.1 0 (suc j) (omega arith) (omega arith)))
    (true_separate xs ((λ i h. s.0 (suc i) (omega arith)), (λ i j l h. s.1 (suc i) (suc j) (omega arith) (omega arith)))))

pub separate-false : (xs : List ℕ) → separate xs ≡ false → Separate xs → ⊥
separate-false xs e s = both_ways (separate xs) e (true_separate xs s)

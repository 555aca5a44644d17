-- When columns are all different and none zero.
use Rattle.std.proofs.Common.{◌≡◌, ℕ, ◌+◌, ◌-◌, ◌^◌, ◌<◌, ◌≤◌, ◌≢◌, List, ◌++◌, length, get_or, sym, refl, ap, ◌∙◌, ⊎_elim, arith, length-append, pow_pos}
use lib.Pow.{pow-lt}
use Rattle.std.proofs.lemmas.List.{get_or_append_left, get_or-append_right}
use Rattle.std.proofs.lemmas.Bool.{cases_lt}
use Rattle.bits.specs.Columns.{units}
use Rattle.bits.proofs.UnitColumns.{length-units, get_or-units}
use Rattle.family.specs.Meaning.{Separate}

-- one list of columns after another
module _ (xs ys : List ℕ) where
  left_at : (i : ℕ) → i < length xs → get_or (xs ++ ys) i 0 ≡ get_or xs i 0
  left_at i h = get_or_append_left xs ys 0 i h

  right_at : (i : ℕ) → length xs ≤ i → get_or (xs ++ ys) i 0 ≡ get_or ys (i - length xs) 0
  right_at i h = get_or-append_right xs ys (length xs) i 0 refl h

  pub separate_append : Separate xs → Separate ys → ((i j : ℕ) → i < length xs → j < length ys → get_or xs i 0 ≢ get_or ys j 0) → Separate (xs ++ ys)
  separate_append sx sy across =
      let long = length-append xs ys in (
        (λ i h. ⊎_elim
            (λ (l : i < length xs) e. sx.0 i l (sym (left_at i l) ∙ e))
            (λ (g : length xs ≤ i) e. sy.0 (i - length xs) (omega arith) (sym (right_at i g) ∙ e))
            (cases_lt i (length xs))),
        (λ i j ij h. ⊎_elim
            (λ (l : j < length xs) e. sx.1 i j ij l (sym (left_at i (omega arith)) ∙ e ∙ left_at j l))
            (λ (g : length xs ≤ j) e. ⊎_elim
            (λ (l : i < length xs). across i (j - length xs) l (omega arith) (sym (left_at i l) ∙ e ∙ right_at j g))
            (λ (k : length xs ≤ i). sy.1 (i - length xs) (j - length xs) (omega arith) (omega arith) (sym (right_at i k) ∙ e ∙ right_at j g))
            (cases_lt i (length xs)))
            (cases_lt j (length xs))),
      )

  pub separate_left : Separate (xs ++ ys) → Separate xs
  separate_left s =
      let long = length-append xs ys in (
        (λ i h e. s.0 i (omega arith) (left_at i h ∙ e)),
        (λ i j ij h e. s.1 i j ij (omega arith) (left_at i (omega arith) ∙ e ∙ sym (left_at j h))),
      )

  pub separate_across : Separate (xs ++ ys) → (i j : ℕ) → i < length xs → j < length ys → get_or xs i 0 ≢ get_or ys j 0
  separate_across s i j hi hj e =
      let long = length-append xs ys in
      let back : length xs + j - length xs ≡ j = omega arith in
      s.1 i (length xs + j) (omega arith) (omega arith)
      (left_at i hi ∙ e ∙ ap (λ k. get_or ys k 0) (sym back) ∙ sym (right_at (length xs + j) (omega arith)))

-- columns that are found, place by place, among separate ones at rising places
pub separate-part : (xs ys : List ℕ) (at : ℕ → ℕ) → ((i : ℕ) → i < length ys → (at i < length xs) × (get_or ys i 0 ≡ get_or xs (at i) 0))
    → ((i j : ℕ) → i < j → j < length ys → at i < at j) → Separate xs → Separate ys
separate-part xs ys at found rises s = (
  (λ i h e. s.0 (at i) (found i h).0 (sym (found i h).1 ∙ e)),
  (λ i j ij h e.
      let hi : i < length ys = omega arith in
      s.1 (at i) (at j) (rises i j ij h) (found j h).0 (sym (found i hi).1 ∙ e ∙ (found j h).1)),
)

pub separate-units : (n : ℕ) → Separate (units n)
separate-units n =
    let long = length-units n in (
      (λ i h e. let p = pow_pos (n - 1 - i) in omega (arith, get_or-units n i (omega arith))),
      (λ i j ij h e.
          let p : 2 ^ (n - 1 - j) < 2 ^ (n - 1 - i) = let q : n - 1 - j < n - 1 - i = omega arith in pow-lt q in
          omega (arith, get_or-units n i (omega arith), get_or-units n j (omega arith))),
    )

-- Columns that are made from states, one from each.
use Rattle.std.specs.Prelude.{◌≡◌, ℕ, ◌^◌, ◌<◌, Bool, true, false, cond, ◌≢◌, List, [], ◌∷◌, map, Some, None, ◌==◌, bit_xor, refl}
use Rattle.std.proofs.Common.{sym, ap, ◌∙◌, ⊎_elim}
use Rattle.std.specs.List.{AllByRecursion}
use Rattle.std.proofs.lemmas.Bool.{cond-true, cond-false, eq-eqb, ne_eqb, cases_eq}
use Rattle.bits.specs.Columns.{picked, place, one_on}

module _ (column : ℕ → ℕ) (of_zero : column 0 ≡ 0) (of_xor : (a b : ℕ) → column (bit_xor a b) ≡ bit_xor (column a) (column b)) where
  of_chosen : (b : Bool) (c : ℕ) → cond b (column c) 0 ≡ column (cond b c 0)
  of_chosen true c = refl
  of_chosen false c = sym of_zero

  -- what a text picks of them is the column of what it picks of the states
  pub picked-column : (bs : List Bool) (cs : List ℕ) → picked bs (map column cs) ≡ column (picked bs cs)
  picked-column [] cs = sym of_zero
  picked-column (b ∷ bs) [] = sym of_zero
  picked-column (b ∷ bs) (c ∷ cs) =
      ap (λ x. bit_xor x (picked bs (map column cs))) (of_chosen b c) ∙ ap (bit_xor (column (cond b c 0))) (picked-column bs cs)
      ∙ sym (of_xor (cond b c 0) (picked bs cs))

pub all_column : (column : ℕ → ℕ) (n w : ℕ) → ((a : ℕ) → a < 2 ^ n → column a < 2 ^ w) → (cs : List ℕ)
    → AllByRecursion (λ c. c < 2 ^ n) cs → AllByRecursion (λ c. c < 2 ^ w) (map column cs)
all_column column n w below [] h = tt
all_column column n w below (c ∷ cs) h = (below c h.0, all_column column n w below cs h.1)

-- the place of the column of a state is that of the state
pub place-column : (column : ℕ → ℕ) → ((a b : ℕ) → column a ≡ column b → a ≡ b) → (x : ℕ) (cs : List ℕ) → place (column x) (map column cs) ≡ place x cs
place-column column apart x [] = refl
place-column column apart x (c ∷ cs) =
    ⊎_elim
    (λ (e : x ≡ c).
    cond-true (column x == column c) (Some 0) (one_on (place (column x) (map column cs))) (eq-eqb (column x) (column c) (ap column e))
    ∙ sym (cond-true (x == c) (Some 0) (one_on (place x cs)) (eq-eqb x c e)))
    (λ (n : x ≡ c → ⊥).
    cond-false (column x == column c) (Some 0) (one_on (place (column x) (map column cs))) (ne_eqb (column x) (column c) (λ e. n (apart x c e)))
    ∙ ap one_on (place-column column apart x cs)
    ∙ sym (cond-false (x == c) (Some 0) (one_on (place x cs)) (ne_eqb x c n)))
    (cases_eq x c)

-- and a number that is the column of no state has none
pub place-no_column : (column : ℕ → ℕ) (x : ℕ) → ((s : ℕ) → column s ≢ x) → (cs : List ℕ) → place x (map column cs) ≡ None
place-no_column column x none [] = refl
place-no_column column x none (c ∷ cs) =
    cond-false (x == column c) (Some 0) (one_on (place x (map column cs))) (ne_eqb x (column c) (λ e. none c (sym e)))
    ∙ ap one_on (place-no_column column x none cs)

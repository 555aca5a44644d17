-- The place of a column: what it says of the columns, and what they say of it.
use Rattle.std.proofs.Common.{◌≡◌, ℕ, zero, suc, ◌+◌, ◌<◌, Bool, true, false, cond, eqb, ◌≢◌, List, [], ◌∷◌, length, get_or, Some, None, Option, sym, refl, ap, ap₂, ◌∙◌, subst, ⊎_elim, arith, add-one}
use Rattle.std.specs.List.{position, position_from}
use Rattle.std.proofs.lemmas.Bool.{eqb-true, eqb-false, eq-eqb, ne_eqb, cond-true, cond-false, cases_eq}
use Rattle.std.proofs.lemmas.Iterator.Adapters.{position_from-zero}
use Rattle.bits.specs.Columns.{place, one_on}

-- a place that is told has the column
pub at_place : (x : ℕ) (cs : List ℕ) (i : ℕ) → place x cs ≡ Some i → (i < length cs) × (get_or cs i 0 ≡ x)
at_place x [] i e = absurd (let z : ◌≡◌ {A = ℕ} 0 1 = cc in omega arith)
at_place x (c ∷ cs) i e = go (eqb x c) refl (place x cs) refl (at_place x cs) e
  where
    go : (b : Bool) → eqb x c ≡ b → (o : Option ℕ) → place x cs ≡ o → ((j : ℕ) → place x cs ≡ Some j → (j < length cs) × (get_or cs j 0 ≡ x))
        → cond b (Some 0) (one_on o) ≡ Some i → (i < length (c ∷ cs)) × (get_or (c ∷ cs) i 0 ≡ x)
    go true h o p ih k = let z : 0 ≡ i = cc in (omega arith, subst (λ (j : ℕ). get_or (c ∷ cs) j 0 ≡ x) z (sym (eqb-true x c h)))
    go false h (Some j) p ih k =
        let z : suc j ≡ i = cc in let r = ih j p in (omega arith, subst (λ (t : ℕ). get_or (c ∷ cs) t 0 ≡ x) z r.1)
    go false h None p ih k = absurd (let z : ◌≡◌ {A = ℕ} 0 1 = cc in omega arith)

-- where none is told, no place has it
pub at_no_place : (x : ℕ) (cs : List ℕ) → place x cs ≡ None → (i : ℕ) → i < length cs → get_or cs i 0 ≢ x
at_no_place x [] e i h = absurd (omega arith)
at_no_place x (c ∷ cs) e i h = go (eqb x c) refl (place x cs) refl (at_no_place x cs) e i h
  where
    go : (b : Bool) → eqb x c ≡ b → (o : Option ℕ) → place x cs ≡ o → (place x cs ≡ None → (j : ℕ) → j < length cs → get_or cs j 0 ≢ x)
        → cond b (Some 0) (one_on o) ≡ None → (j : ℕ) → j < length (c ∷ cs) → get_or (c ∷ cs) j 0 ≢ x
    go true t o p ih k j l = absurd (let z : ◌≡◌ {A = ℕ} 0 1 = cc in omega arith)
    go false t (Some r) p ih k j l = absurd (let z : ◌≡◌ {A = ℕ} 0 1 = cc in omega arith)
    go false t None p ih k zero l = λ q. eqb-false x c t (sym q)
    go false t None p ih k (suc j) l = ih p j (omega arith)

-- the first place whose column is x
pub place-first : (x : ℕ) (cs : List ℕ) (i : ℕ) → i < length cs → get_or cs i 0 ≡ x → ((j : ℕ) → j < i → get_or cs j 0 ≢ x) → place x cs ≡ Some i
place-first x [] i h e new = absurd (omega arith)
place-first x (c ∷ cs) zero h e new = cond-true (eqb x c) (Some 0) (one_on (place x cs)) (eq-eqb x c (sym e))
place-first x (c ∷ cs) (suc i) h e new =
    cond-false (eqb x c) (Some 0) (one_on (place x cs)) (ne_eqb x c (λ q. new 0 (omega arith) (sym q)))
    ∙ ap one_on (place-first x cs i (omega arith) e (λ j l. new (suc j) (omega arith)))

pub place_none : (x : ℕ) (cs : List ℕ) → ((j : ℕ) → j < length cs → get_or cs j 0 ≢ x) → place x cs ≡ None
place_none x [] new = refl
place_none x (c ∷ cs) new =
    cond-false (eqb x c) (Some 0) (one_on (place x cs)) (ne_eqb x c (λ q. new 0 (omega arith) (sym q)))
    ∙ ap one_on (place_none x cs (λ j l. new (suc j) (omega arith)))

-- the place as the list library tells it: the first one that passes a test
test_from_next : (t : ℕ → Bool) (i : ℕ) (cs : List ℕ) → position_from t (i + 1) cs ≡ one_on (position_from t i cs)
test_from_next t i [] = refl
test_from_next t i (c ∷ cs) = go (t c) (test_from_next t (i + 1) cs)
  where
    go : (b : Bool) → position_from t (i + 1 + 1) cs ≡ one_on (position_from t (i + 1) cs)
        → cond b (Some (i + 1)) (position_from t (i + 1 + 1) cs) ≡ one_on (cond b (Some i) (position_from t (i + 1) cs))
    go true e = ap Some (add-one i)
    go false e = e

same_either_way : (x c : ℕ) → eqb c x ≡ eqb x c
same_either_way x c =
    ⊎_elim
    (λ (e : x ≡ c). eq-eqb c x (sym e) ∙ sym (eq-eqb x c e))
    (λ (n : x ≡ c → ⊥). ne_eqb c x (λ e. n (sym e)) ∙ sym (ne_eqb x c n))
    (cases_eq x c)

place_from_first : (x : ℕ) (cs : List ℕ) → position_from (λ c. eqb c x) 0 cs ≡ place x cs
place_from_first x [] = refl
place_from_first x (c ∷ cs) =
    ap₂ (λ b o. cond b (Some 0) o) (same_either_way x c) (test_from_next (λ d. eqb d x) 0 cs ∙ ap one_on (place_from_first x cs))

pub position_place : (x : ℕ) (cs : List ℕ) → position (λ c. eqb c x) cs ≡ place x cs
position_place x cs = position_from-zero (λ c. eqb c x) cs ∙ place_from_first x cs

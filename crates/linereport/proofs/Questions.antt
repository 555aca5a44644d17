-- Questions that are tests, asked as facts; and that questions decide but once.
use Rattle.std.proofs.Common.{◌≡◌, ℕ, Bool, true, false, List, [], ◌∷◌, Some, None, sym, refl, ap, ◌∙◌, inl, inr, ⊎_elim, arith}
use Rattle.std.proofs.lemmas.Bool.{true≢false}
use Rattle.family.specs.Questions.{Question, AllYes, FirstNo}
use Rattle.account.specs.Questions as account
use Rattle.account.specs.Questions.{Refusal, first_refusal}
use Rattle.linereport.specs.Keys.{tested}

-- ---- tests

tested-none_at : (b : Bool) (r : Refusal) (qs : List account.Question) → (first_refusal qs ≡ None → AllYes (tested qs))
    → first_refusal (record { passes = b; otherwise = r } ∷ qs) ≡ None → AllYes (tested (record { passes = b; otherwise = r } ∷ qs))
tested-none_at true r qs f e = (refl, f e)
tested-none_at false r qs f e = absurd (let z : ◌≡◌ {A = ℕ} 0 1 = cc in omega arith)

-- all tests are passed
pub tested-none : (qs : List account.Question) → first_refusal qs ≡ None → AllYes (tested qs)
tested-none [] e = tt
tested-none (q ∷ qs) e = tested-none_at q.passes q.otherwise qs (tested-none qs) e

tested-some_at : (b : Bool) (r s : Refusal) (qs : List account.Question) → (first_refusal qs ≡ Some s → FirstNo (tested qs) s.number)
    → first_refusal (record { passes = b; otherwise = r } ∷ qs) ≡ Some s → FirstNo (tested (record { passes = b; otherwise = r } ∷ qs)) s.number
tested-some_at true r s qs f e = inr (refl, f e)
tested-some_at false r s qs f e = inl ((λ h. true≢false (sym h)), ap (λ (x : Refusal). x.number) (let same : s ≡ r = cc in same))

-- the first that is not
pub tested-some : (qs : List account.Question) (s : Refusal) → first_refusal qs ≡ Some s → FirstNo (tested qs) s.number
tested-some [] s e = absurd (let z : ◌≡◌ {A = ℕ} 0 1 = cc in omega arith)
tested-some (q ∷ qs) s e = tested-some_at q.passes q.otherwise s qs (tested-some qs s) e

-- ---- questions decide but once

-- not both: all answers are yes, and there is a first no
pub never_both : (qs : List Question) (n : ℕ) → AllYes qs → FirstNo qs n → ⊥
never_both [] n y f = f
never_both (q ∷ qs) n y f = ⊎_elim (λ here. here.0 y.0) (λ later. never_both qs n y.1 later.1) f

-- the first no is one
pub first_once : (qs : List Question) (m n : ℕ) → FirstNo qs m → FirstNo qs n → m ≡ n
first_once [] m n f g = absurd f
first_once (q ∷ qs) m n (inl f) (inl g) = f.1 ∙ sym g.1
first_once (q ∷ qs) m n (inl f) (inr g) = absurd (f.0 g.0)
first_once (q ∷ qs) m n (inr f) (inl g) = absurd (g.0 f.0)
first_once (q ∷ qs) m n (inr f) (inr g) = first_once qs m n f.1 g.1

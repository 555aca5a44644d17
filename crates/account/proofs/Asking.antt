-- Lists of questions: what it means to pass them, and to be refused.
use Rattle.std.proofs.Common.{arith, ◌≡◌, Bool, true, false, cond, ◌⊎◌, List, [], ◌∷◌, ◌++◌, Some, None, sym, refl, ap, ◌∙◌, inl, inr}
use Rattle.std.specs.List.{AllByRecursion}
use Rattle.std.proofs.lemmas.Bool.{true≢false}
use Rattle.account.specs.Questions.{Refusal, Question, first_refusal, Yes, FirstNo, FirstNoDecides}

-- ---- all are answered yes

pub passed : (qs : List Question) → first_refusal qs ≡ None → AllByRecursion Yes qs
passed [] e = tt
passed (q ∷ qs) e = (grind arith, passed qs (grind arith))

pub passes : (qs : List Question) → AllByRecursion Yes qs → first_refusal qs ≡ None
passes [] h = refl
passes (q ∷ qs) h = rw h.0 (passes qs h.1)

-- ---- one is answered no

-- some question is answered no
abbrev pub SomeNo : List Question → Type 0
SomeNo [] = ⊥
SomeNo (q ∷ qs) = (q.passes ≡ false) ⊎ SomeNo qs

pub refused-by : (qs : List Question) → SomeNo qs → (r : Refusal) × (first_refusal qs ≡ Some r)
refused-by [] n = absurd n
refused-by (q ∷ qs) n = go q.passes refl n (refused-by qs)
  where
    go : (b : Bool) → q.passes ≡ b → SomeNo (q ∷ qs) → (SomeNo qs → (r : Refusal) × (first_refusal qs ≡ Some r))
        → (r : Refusal) × (cond b (first_refusal qs) (Some q.otherwise) ≡ Some r)
    go false e k ih = (q.otherwise, refl)
    go true e (inl k) ih = absurd (true≢false (sym e ∙ k))
    go true e (inr k) ih = ih k

-- ---- the first no decides

later : (q : Question) (qs : List Question) (r : Refusal) → q.passes ≡ true → FirstNo qs r → FirstNo (q ∷ qs) r
later q qs r y f =
    record {
      before = q ∷ f.before;
      question = f.question;
      after = f.after;
      asked = ap (λ (l : List Question). q ∷ l) f.asked;
      passed = (y, f.passed);
      failed = f.failed;
      refused = f.refused;
    }

first_no : (qs : List Question) (r : Refusal) → first_refusal qs ≡ Some r → FirstNo qs r
first_no [] r e = absurd (cc)
first_no (q ∷ qs) r e = go q.passes refl e (first_no qs r)
  where
    go : (b : Bool) → q.passes ≡ b → cond b (first_refusal qs) (Some q.otherwise) ≡ Some r
        → (first_refusal qs ≡ Some r → FirstNo qs r) → FirstNo (q ∷ qs) r
    go true h k ih = later q qs r h (ih k)
    go false h k ih =
        record { before = []; question = q; after = qs; asked = refl; passed = tt; failed = h; refused = cc }

refused-after : (before : List Question) (q : Question) (after : List Question) → AllByRecursion Yes before → q.passes ≡ false
    → first_refusal (before ++ q ∷ after) ≡ Some q.otherwise
refused-after [] q after y n = rw n
refused-after (p ∷ before) q after y n = rw y.0 (refused-after before q after y.1 n)

no_first : (qs : List Question) (r : Refusal) → FirstNo qs r → first_refusal qs ≡ Some r
no_first qs r f =
    ap first_refusal f.asked ∙ refused-after f.before f.question f.after f.passed f.failed
    ∙ ap (λ (x : Refusal). Some x) f.refused

pub first_no_decides : FirstNoDecides
first_no_decides = record { accepts = passed; accepted = passes; refuses = first_no; refused = no_first }

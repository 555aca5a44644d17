-- A call asks its questions in order, and the first no is its refusal.
use Rattle.std.specs.Prelude.{◌≡◌, ℕ, Bool, true, false, cond, List, [], ◌∷◌, ◌++◌, Some, None, Option}
use Rattle.std.specs.List.{AllByRecursion}

-- A refusal: its number, and the slot that it carries. Only a refusal that passes on a pad source's fault carries one: the slot
-- that the fault names.
pub record Refusal : Type 0 where
  pub number : ℕ
  pub slot : Option ℕ

-- a test, and the refusal where it is no
pub record Question : Type 0 where
  pub passes : Bool
  pub otherwise : Refusal

-- a question whose refusal carries nothing
abbrev pub asks : (test : Bool) (number : ℕ) → Question
asks test number = record { passes = test; otherwise = record { number = number; slot = None } }

-- the refusal of the first question that is answered no; none where all are answered yes
abbrev pub first_refusal : List Question → Option Refusal
first_refusal [] = None
first_refusal (q ∷ qs) = cond q.passes (first_refusal qs) (Some q.otherwise)

-- a question that is answered yes
abbrev pub Yes : Question → Type 0
Yes q = q.passes ≡ true

-- a refusal tells the truth: its question is answered no, and all before it are answered yes
pub record FirstNo (qs : List Question) (r : Refusal) : Type 0 where
  pub before : List Question
  pub question : Question
  pub after : List Question
  pub asked : qs ≡ before ++ question ∷ after
  pub passed : AllByRecursion Yes before
  pub failed : question.passes ≡ false
  pub refused : question.otherwise ≡ r

-- both ways round, for every list of questions
pub record FirstNoDecides : Type 0 where
  pub accepts : (qs : List Question) → first_refusal qs ≡ None → AllByRecursion Yes qs
  pub accepted : (qs : List Question) → AllByRecursion Yes qs → first_refusal qs ≡ None
  pub refuses : (qs : List Question) (r : Refusal) → first_refusal qs ≡ Some r → FirstNo qs r
  pub refused : (qs : List Question) (r : Refusal) → FirstNo qs r → first_refusal qs ≡ Some r

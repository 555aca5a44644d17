-- The totals are counts of answers.
use Rattle.std.proofs.Common.{◌≡◌, ℕ, zero, suc, ◌+◌, ◌^◌, ◌<◌, ◌≤◌, List, [], ◌∷◌, ◌++◌, length, Some, None, Ok, Err, sum_by, Result, sym, refl, ap, ◌∙◌, arith}
use Rattle.std.proofs.lemmas.List.Sums.{sum_by-cons, sum_by_push}
use Rattle.account.specs.Calls.{Answer, Wrote, Opened, Done, Refused}
use Rattle.framing.specs.declared.opening.Opened as framing
use Rattle.framing.specs.declared.refusals.OpenRefusal.{OpenRefusal}
use Rattle.linewriter.specs.declared.totals.Totals.{Totals}
use Rattle.linewriter.specs.Counting.{open_answer, OfOpen, counts_opened, counts_mended, counts_refused, totals_of, raised, counted, TotalsAddUp}

-- ---- each answer of an open is counted once

one_of_three : (answer : Answer) → OfOpen answer → counts_opened answer + counts_mended answer + counts_refused answer ≡ 1
one_of_three (Opened size None) h = refl
one_of_three (Opened size (Some place)) h = refl
one_of_three (Refused refusal) h = refl
one_of_three (Wrote size) h = absurd h
one_of_three Done h = absurd h

pub totals_add_up : TotalsAddUp
totals_add_up [] h = refl
totals_add_up (answer ∷ answers) (h, hs) =
    let one = one_of_three answer h in
    let rest = totals_add_up answers hs in
    omega (arith, sum_by-cons counts_opened answer answers, sum_by-cons counts_mended answer answers, sum_by-cons counts_refused answer answers)

-- what an open answered is an answer of an open
pub of_open : (r : Result framing.Opened OpenRefusal) → OfOpen (open_answer r)
of_open (Ok opened) = tt
of_open (Err refusal) = tt

-- ---- totals that are counted one by one

-- each answer counts for at most one
pub at_most_one : (answer : Answer) → counts_opened answer + counts_mended answer + counts_refused answer ≤ 1
at_most_one (Opened size None) = omega arith
at_most_one (Opened size (Some place)) = omega arith
at_most_one (Refused refusal) = omega arith
at_most_one (Wrote size) = omega arith
at_most_one Done = omega arith

at_most_all : (counts : Answer → ℕ) → ((answer : Answer) → counts answer ≤ 1) → (answers : List Answer) → sum_by counts answers ≤ length answers
at_most_all counts one [] = omega arith
at_most_all counts one (answer ∷ answers) = omega (arith, sum_by-cons counts answer answers, one answer, at_most_all counts one answers)

-- what stays below the largest number is counted on
pub raised_below : (n k : ℕ) → n + k < 2 ^ 64 → raised n k ≡ n + k
raised_below n zero h = omega arith
raised_below n (suc k) h = omega arith

raised-on : (counts : Answer → ℕ) → ((answer : Answer) → counts answer ≤ 1) → (answers : List Answer) (answer : Answer) → length answers + 1 < 2 ^ 64 →
    raised (sum_by counts answers) (counts answer) ≡ sum_by counts (answers ++ answer ∷ [])
raised-on counts one answers answer h =
    raised_below (sum_by counts answers) (counts answer) (omega (arith, at_most_all counts one answers, one answer)) ∙ sym (sum_by_push counts answers answer)

-- counting one answer more gives the totals with it, as long as they are few enough
pub counted-on : (answers : List Answer) (answer : Answer) → length answers + 1 < 2 ^ 64 → counted (totals_of answers) answer ≡ totals_of (answers ++ answer ∷ [])
counted-on answers answer h =
    let totals : ℕ → ℕ → ℕ → Totals = λ x y z. record { opened = x; mended = y; refused = z } in
    let before = totals_of answers in
    let after = totals_of (answers ++ answer ∷ []) in
    ap (λ x. totals x (counted before answer).mended (counted before answer).refused) (raised-on counts_opened (λ a. omega (arith, at_most_one a)) answers answer h)
    ∙ ap (λ y. totals after.opened y (counted before answer).refused) (raised-on counts_mended (λ a. omega (arith, at_most_one a)) answers answer h)
    ∙ ap (λ z. totals after.opened after.mended z) (raised-on counts_refused (λ a. omega (arith, at_most_one a)) answers answer h)

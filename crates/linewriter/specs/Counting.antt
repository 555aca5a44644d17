-- What opens answer, in the account's words, and how many of the answers are of each sort.
use Rattle.std.specs.Prelude.{◌≡◌, ℕ, zero, suc, ◌+◌, ◌-◌, ◌^◌, min, List, length, Some, None, sum_by, Result}
use Rattle.std.specs.List.{AllByRecursion}
use Rattle.account.specs.Calls.{Answer, Wrote, Done, Refused}
use Rattle.account.specs.Calls as account
use Rattle.framing.specs.Refusals.{open_refusal}
use Rattle.framing.specs.declared.opening.Opened.{Opened}
use Rattle.framing.specs.declared.refusals.OpenRefusal.{OpenRefusal}
use Rattle.ends.specs.Replies.{answered}
use Rattle.linewriter.specs.declared.totals.Totals.{Totals}

-- what an open answered
abbrev pub open_answer : Result Opened OpenRefusal → Answer
open_answer r = answered (λ o. account.Opened o.len o.mended) open_refusal r

-- an answer that an open gives
abbrev pub OfOpen : Answer → Type 0
OfOpen (account.Opened size place) = Unit {0}
OfOpen (Refused refusal) = Unit {0}
OfOpen (Wrote size) = ⊥
OfOpen Done = ⊥

-- ---- each sort of answer counts for one

abbrev pub counts_opened : Answer → ℕ
counts_opened (account.Opened size None) = 1
counts_opened (account.Opened size (Some place)) = 0
counts_opened (Refused refusal) = 0
counts_opened (Wrote size) = 0
counts_opened Done = 0

abbrev pub counts_mended : Answer → ℕ
counts_mended (account.Opened size None) = 0
counts_mended (account.Opened size (Some place)) = 1
counts_mended (Refused refusal) = 0
counts_mended (Wrote size) = 0
counts_mended Done = 0

abbrev pub counts_refused : Answer → ℕ
counts_refused (account.Opened size place) = 0
counts_refused (Refused refusal) = 1
counts_refused (Wrote size) = 0
counts_refused Done = 0

-- how many of the answers are of each sort
abbrev pub totals_of : List Answer → Totals
totals_of answers = record {
  opened = sum_by counts_opened answers;
  mended = sum_by counts_mended answers;
  refused = sum_by counts_refused answers;
}

-- n with k counted on. What is counted on does not pass the largest number of 64 bits.
abbrev pub raised : (n k : ℕ) → ℕ
raised n zero = n
raised n (suc k) = min (n + suc k) (2 ^ 64 - 1)

-- the totals with one answer more
abbrev pub counted : Totals → Answer → Totals
counted totals answer = record {
  opened = raised totals.opened (counts_opened answer);
  mended = raised totals.mended (counts_mended answer);
  refused = raised totals.refused (counts_refused answer);
}

-- every answer of an open is counted once
abbrev pub TotalsAddUp : Type 0
TotalsAddUp =
    (answers : List Answer) → AllByRecursion OfOpen answers →
    (totals_of answers).opened + (totals_of answers).mended + (totals_of answers).refused ≡ length answers

-- Runs in parts: where a call stands in a run, where a sealed frame comes from, and how runs follow each other.
use Rattle.std.specs.Prelude.{◌≡◌, ℕ, ◌+◌, ◌*◌, ◌≤◌, List, [], ◌∷◌, ◌++◌, map, length, Some}
use Rattle.std.specs.List.{ContainsAt as Has, AllByRecursion}
use Rattle.family.specs.Meaning.{Meaning}
use Rattle.account.specs.Calls.{Pads, Call, Seal, Answer, Wrote}
use Rattle.account.specs.Account.{SealedFrame, Account, Step, sealed_entry, outcome, outcomes, account_after, Creations, created}
use Rattle.account.specs.Ends.{Ends, Reaches, new_ends, ends_of, reply}
use Rattle.account.specs.Promise.{Accepted, Proper, Promise}

-- ---- inside a run

-- A call with others before and after it: what is worked out for it is its outcome at the account of those before.
abbrev pub Splits : Type 0
Splits =
    (a : Account) (before : List Call) (c : Call) (after : List Call)
    → let here = account_after a before in
    outcomes a (before ++ c ∷ after) ≡ outcomes a before ++ outcome here c ∷ outcomes (outcome here c).after after

-- The seal that a sealed frame came from: where it stands among the calls, that it was accepted, and that the entry is what the
-- call found.
pub record Origin (start : Account) (calls : List Call) (e : SealedFrame) : Type 0 where
  pub before : List Call
  pub after : List Call
  pub slot : ℕ
  pub payload : List ℕ
  pub buffer : List ℕ
  pub pads : Pads
  pub word : ℕ
  pub split : calls ≡ before ++ Seal slot payload buffer pads ∷ after
  pub covered : pads slot ≡ Some word
  pub accepted : (outcome (account_after start before) (Seal slot payload buffer pads)).answer ≡ Wrote (length e.frame)
  pub entry : e ≡ sealed_entry (account_after start before) slot payload word

-- every sealed frame of a run has one
abbrev pub Origins : Type 0
Origins =
    (c : Creations) (calls : List Call) (e : SealedFrame) → Has (account_after (created c) calls).sealed e
    → Origin (created c) calls e

-- ---- one run after another

-- what a caller is given: the answer, and what the output buffer then holds
pub record Returned : Type 0 where
  pub answer : Answer
  pub buffer : List ℕ

-- that, as the account works it out
abbrev pub worked_out : Step → Returned
worked_out s = record { answer = s.answer; buffer = s.buffer }

-- Calls that stand after `before`, with what was returned for each, and the two ends as they are left.
pub record GoesOn (c : Creations) (before calls : List Call) (returned : List Returned) (left : Ends) : Type 0 where
  -- each answer and buffer is what the account works out
  pub answers : returned ≡ map worked_out (outcomes (account_after (created c) before) calls)
  -- the ends stand as the account says, and all calls were proper: a later run can go on from here
  pub stands : left ≡ ends_of (account_after (created c) (before ++ calls))
  pub proper : AllByRecursion Proper (before ++ calls)
  -- the promise, at every d that the keys used allow
  pub promises :
      (d : ℕ) → AllByRecursion (λ (k : Meaning). 2 * c.allowance + d + 1 ≤ k.distance) (account_after (created c) (before ++ calls)).used
      → Promise c (before ++ calls) d

-- What a run keeps, wherever it stands: whatever was created and called before, if the ends are found as the account of it says.
abbrev pub Kept : (found : Ends) (calls : List Call) (returned : List Returned) (left : Ends) → Type 0
Kept found calls returned left =
    (c : Creations) (before : List Call) → Accepted c → AllByRecursion Proper before → found ≡ ends_of (account_after (created c) before)
    → GoesOn c before calls returned left

-- Two ends that were just created stand as the account of no calls says.
abbrev pub Starts : Type 0
Starts = (c : Creations) → new_ends c ≡ ends_of (account_after (created c) [])

-- No call is a run. One call is a run, if ends whose keys reach every text reply to it as `reply` says. A run and a run after it
-- are a run.
pub record InSequence : Type 0 where
  pub none : (e : Ends) → Kept e [] [] e
  pub one :
      (found left : Ends) (call : Call) (r : Returned) → Proper call
      → (Reaches found.reader → Reaches found.door
      → reply found call ≡ record { answer = r.answer; buffer = r.buffer; after = left })
      → Kept found (call ∷ []) (r ∷ []) left
  pub and_then :
      (found between left : Ends) (first second : List Call) (r s : List Returned) → Kept found first r between
      → Kept between second s left → Kept found (first ++ second) (r ++ s) left

-- Every created end has keys that reach every text, and keeps such keys whatever is called. So the one question that the account
-- does not ask is never answered no.
use Rattle.std.specs.Prelude.{◌≡◌, ℕ, ◌≢◌, List, None}
use Rattle.family.specs.Meaning.{Meaning}
use Rattle.account.specs.Questions.{first_refusal}
use Rattle.account.specs.Calls.{Pads, Refused}
use Rattle.account.specs.Keys.{key_questions}
use Rattle.account.specs.Ends.{EndState, Reaches, new_end, appoint_reply, strike_reply, withdraw_reply}
use Rattle.framing.specs.Refusals.{plain}
use Rattle.ends.specs.Replies.{any_seal_reply, any_open_reply}

pub record ReachingLasts : Type 0 where
  -- an end whose key passes the questions of its creation reaches
  pub created : (key : Meaning) (number allowance : ℕ) → first_refusal (key_questions key) ≡ None → Reaches (new_end key number allowance)
  -- each call leaves an end that reaches
  pub seals : (h : EndState) (slot : ℕ) (payload buffer : List ℕ) (pads : Pads) → Reaches h
      → Reaches (any_seal_reply h slot payload buffer pads).after
  pub opens : (h : EndState) (slot : ℕ) (frame buffer : List ℕ) (pads : Pads) → Reaches h
      → Reaches (any_open_reply h slot frame buffer pads).after
  pub appoints : (h : EndState) (key : Meaning) (start : ℕ) → Reaches h → Reaches (appoint_reply h key start).after
  pub strikes : (h : EndState) → Reaches h → Reaches (strike_reply h).after
  pub withdraws : (h : EndState) → Reaches h → Reaches (withdraw_reply h).after
  -- and an end that reaches never answers that its key does not
  pub seal_reached : (h : EndState) (slot : ℕ) (payload buffer : List ℕ) (pads : Pads) → Reaches h
      → (any_seal_reply h slot payload buffer pads).answer ≢ Refused (plain 8)
  pub open_reached : (h : EndState) (slot : ℕ) (frame buffer : List ℕ) (pads : Pads) → Reaches h
      → (any_open_reply h slot frame buffer pads).answer ≢ Refused (plain 8)

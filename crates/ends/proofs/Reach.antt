-- Keys that reach every text: an end has them from its creation on.
use Rattle.std.proofs.Common.{◌≡◌, ℕ, ◌≢◌, List, Some, None, Option, sym, ap, ◌∙◌, arith}
use Rattle.std.proofs.lemmas.Bool.Decides.{nat_tests}
use Rattle.family.specs.Meaning.{Meaning}
use Rattle.family.specs.declared.family.Family.{Ghosts}
use Rattle.frames.specs.Limits.{needed_reach}
use Rattle.account.specs.Questions.{first_refusal}
use Rattle.account.specs.Calls.{Pads, Refused}
use Rattle.account.specs.Keys.{governing, start_of, key_questions}
use Rattle.account.specs.Ends.{EndState, EndReply, Reaches, new_end, seal_reply, open_reply, appoint_reply, strike_reply, withdraw_reply}
use Rattle.framing.specs.Asked.{frame_questions}
use Rattle.framing.specs.Refusals.{plain}
use Rattle.ends.specs.Replies.{any_seal_reply, any_open_reply}
use Rattle.ends.specs.States.{pending_of, end_state}
use Rattle.ends.specs.Reaching.{ReachingLasts}
use Rattle.ends.specs.declared.keys.ServingKey.{ServingKey}
use Rattle.ends.specs.declared.keys.PendingKey.{PendingKey}
use Rattle.ends.specs.declared.end.End.{End}

-- ---- where the governing key reaches every text, the question of its reach is answered yes wherever it is asked

pub seal_follows : (h : EndState) (slot : ℕ) (payload buffer : List ℕ) (pads : Pads) → Reaches h
    → any_seal_reply h slot payload buffer pads ≡ seal_reply h slot payload buffer pads
seal_follows h slot payload buffer pads full = grind (arith, nat_tests, full slot)

pub open_follows : (h : EndState) (slot : ℕ) (frame buffer : List ℕ) (pads : Pads) → Reaches h
    → any_open_reply h slot frame buffer pads ≡ open_reply h slot frame buffer pads
unfolding frame_questions
open_follows h slot frame buffer pads full = grind (arith, nat_tests, full slot)

-- ---- the keys of an end are admitted, so it reaches

keys_reach : {F : Type 0} {f : Ghosts F} (current : ServingKey F f) (pending : Option (PendingKey F f)) (slot : ℕ)
    → (governing (f.meaning current.key) (pending_of f.meaning pending) slot).reach ≡ needed_reach
unfolding governing
keys_reach current None slot = current.reaches
keys_reach current (Some p) slot = grind (arith, current.reaches, p.key.reaches)

pub end_reaches : {F R : Type 0} {f : Ghosts F} (e : End F R f) → Reaches (end_state f.meaning e)
end_reaches e slot = keys_reach e.current e.pending slot

-- and its replies are the account's
pub end_seals : {F R : Type 0} {f : Ghosts F} (e : End F R f) (slot : ℕ) (payload buffer : List ℕ) (pads : Pads)
    → any_seal_reply (end_state f.meaning e) slot payload buffer pads ≡ seal_reply (end_state f.meaning e) slot payload buffer pads
end_seals {f = f} e slot payload buffer pads = seal_follows (end_state f.meaning e) slot payload buffer pads (end_reaches e)

pub end_opens : {F R : Type 0} {f : Ghosts F} (e : End F R f) (slot : ℕ) (frame buffer : List ℕ) (pads : Pads)
    → any_open_reply (end_state f.meaning e) slot frame buffer pads ≡ open_reply (end_state f.meaning e) slot frame buffer pads
end_opens {f = f} e slot frame buffer pads = open_follows (end_state f.meaning e) slot frame buffer pads (end_reaches e)

-- ---- what each call leaves

created : (key : Meaning) (number allowance : ℕ) → first_refusal (key_questions key) ≡ None → Reaches (new_end key number allowance)
unfolding governing
created key number allowance e slot = grind (arith, nat_tests)

seals : (h : EndState) (slot : ℕ) (payload buffer : List ℕ) (pads : Pads) → Reaches h → Reaches (any_seal_reply h slot payload buffer pads).after
seals h slot payload buffer pads full s = grind (arith, full s)

opens : (h : EndState) (slot : ℕ) (frame buffer : List ℕ) (pads : Pads) → Reaches h → Reaches (any_open_reply h slot frame buffer pads).after
opens h slot frame buffer pads full s = grind (arith, full s)

appoints : (h : EndState) (key : Meaning) (start : ℕ) → Reaches h → Reaches (appoint_reply h key start).after
unfolding governing
appoints h key start full s = grind (arith, nat_tests, full s, full 0)

strikes : (h : EndState) → Reaches h → Reaches (strike_reply h).after
unfolding governing
strikes h full s = grind (arith, nat_tests, full s, full (start_of h.next))

withdraws : (h : EndState) → Reaches h → Reaches (withdraw_reply h).after
unfolding governing
withdraws h full s = grind (arith, nat_tests, full s, full h.last)

-- ---- the refusals that are left

seal_reached : (h : EndState) (slot : ℕ) (payload buffer : List ℕ) (pads : Pads) → Reaches h
    → (any_seal_reply h slot payload buffer pads).answer ≢ Refused (plain 8)
seal_reached h slot payload buffer pads full e =
    let said : (seal_reply h slot payload buffer pads).answer ≡ Refused (plain 8) =
    ap (λ (x : EndReply). x.answer) (sym (seal_follows h slot payload buffer pads full)) ∙ e in
    grind arith

open_reached : (h : EndState) (slot : ℕ) (frame buffer : List ℕ) (pads : Pads) → Reaches h
    → (any_open_reply h slot frame buffer pads).answer ≢ Refused (plain 8)
open_reached h slot frame buffer pads full e =
    let said : (open_reply h slot frame buffer pads).answer ≡ Refused (plain 8) =
    ap (λ (x : EndReply). x.answer) (sym (open_follows h slot frame buffer pads full)) ∙ e in
    grind arith

pub reaching_lasts : ReachingLasts
reaching_lasts =
    record {
      created = created;
      seals = seals;
      opens = opens;
      appoints = appoints;
      strikes = strikes;
      withdraws = withdraws;
      seal_reached = seal_reached;
      open_reached = open_reached;
    }

-- What a call at an end gave, as a reply in the account's words.
use Rattle.std.specs.Prelude.{ℕ, List, [], ◌∷◌, ◌++◌, length, Ok, Err, Result, nat_lt}
use Rattle.account.specs.Questions.{Refusal, Question, asks, first_refusal}
use Rattle.account.specs.Calls.{Pads, word, Answer, Wrote, Done, Refused}
use Rattle.account.specs.Calls as account
use Rattle.account.specs.Sealing.{seal_questions, frame_under}
use Rattle.account.specs.Opening.{payload_under, place_under}
use Rattle.account.specs.Ends.{EndState, EndReply, governed, writes}
use Rattle.framing.specs.Asked.{reach_question, frame_questions}
use Rattle.framing.specs.Refusals.{seal_refusal, open_refusal}
use Rattle.framing.specs.declared.refusals.SealRefusal.{SealRefusal}
use Rattle.framing.specs.declared.refusals.OpenRefusal.{OpenRefusal}
use Rattle.framing.specs.declared.opening.Opened.{Opened}
use Rattle.ends.specs.Refusals.{change_refusal}
use Rattle.ends.specs.declared.refusals.ChangeRefusal.{ChangeRefusal}

-- ---- what a call gave: its answer, what the output buffer then holds, and what the end then holds

abbrev pub answered : {X E : Type 0} (answer : X → Answer) (refusal : E → Refusal) → Result X E → Answer
answered answer refusal (Ok x) = answer x
answered answer refusal (Err e) = Refused (refusal e)

abbrev pub sealed : Result ℕ SealRefusal → (buffer : List ℕ) → EndState → EndReply
sealed r buffer h = record { answer = answered Wrote seal_refusal r; buffer = buffer; after = h }

abbrev pub opened : Result Opened OpenRefusal → (buffer : List ℕ) → EndState → EndReply
opened r buffer h = record { answer = answered (λ o. account.Opened o.len o.mended) open_refusal r; buffer = buffer; after = h }

abbrev pub changed : {X : Type 0} → Result X ChangeRefusal → EndState → EndReply
changed r h = record { answer = answered (λ _. Done) change_refusal r; buffer = []; after = h }

-- ---- The replies to a seal and an open of any end at all. Beside the account's questions it is asked whether the governing key
-- reaches the text. Every created end has keys that do; there these replies are the account's own.

abbrev pub seal_asked : EndState → (slot : ℕ) (payload buffer : List ℕ) (pads : Pads) → List Question
seal_asked h slot payload buffer pads =
    seal_questions h.last slot (governed h slot).width payload buffer pads ++ reach_question (governed h slot) (length payload) ∷ []

abbrev pub any_seal_reply : EndState → (slot : ℕ) (payload buffer : List ℕ) (pads : Pads) → EndReply
any_seal_reply h slot payload buffer pads =
    let frame = frame_under (governed h slot) (word (pads slot)) h.number slot payload in
    writes (first_refusal (seal_asked h slot payload buffer pads)) h slot (Wrote (length frame)) frame buffer

abbrev pub open_asked : EndState → (slot : ℕ) (frame buffer : List ℕ) (pads : Pads) → List Question
open_asked h slot frame buffer pads =
    asks (nat_lt h.last slot) 21 ∷ frame_questions (governed h slot) h.number h.allowance slot frame (length buffer) pads

abbrev pub any_open_reply : EndState → (slot : ℕ) (frame buffer : List ℕ) (pads : Pads) → EndReply
any_open_reply h slot frame buffer pads =
    let key = governed h slot in
    let w = word (pads slot) in
    let payload = payload_under key w h.number slot frame in
    writes (first_refusal (open_asked h slot frame buffer pads)) h slot (account.Opened (length payload) (place_under key w h.number slot frame)) payload buffer

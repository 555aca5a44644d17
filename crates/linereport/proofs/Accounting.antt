-- What the lines tell is what the account works out.
use Rattle.std.proofs.Common.{◌≡◌, ℕ, suc, ◌+◌, List, [], ◌∷◌, map, length, Some, None, sum_by, Option, sym, refl, ap, ◌∙◌, ap₂, arith, length-append}
use Rattle.std.specs.List.{AllByRecursion}
use Rattle.std.proofs.lemmas.List.Sums.{sum_by-cons}
use Rattle.family.specs.Meaning.{Meaning}
use Rattle.pads.specs.Sources.{book_words}
use Rattle.account.specs.Questions.{Refusal, first_refusal}
use Rattle.account.specs.Calls.{Pads, word, AtDoor, Call, Open, Answer}
use Rattle.account.specs.Opening.{open_questions, finding_under, place_under}
use Rattle.account.specs.Account.{HandedOver, Account, Step, governs, last_slot, handed_entry, opens, outcome, outcomes, account_after, created}
use Rattle.account.specs.Ends.{EndState, Replied, new_end, ends_of, reply}
use Rattle.account.proofs.Following.{ends-follow}
use Rattle.linefile.specs.File.{SentFrame}
use Rattle.linewriter.specs.Counting.{OfOpen, counts_opened, counts_mended, totals_of}
use Rattle.linewriter.proofs.Counts.{totals_add_up}
use Rattle.linereport.specs.Keys.{record_meaning}
use Rattle.linereport.specs.Frames.{room, frame_reply, answers}
use Rattle.linereport.specs.Report.{answers_under}
use Rattle.linereport.specs.Laws.{opens_of, LinesFollowTheAccount}

-- a frame as a call of a run
abbrev call_of : Pads → SentFrame → Call
call_of pads f = Open f.slot f.bytes room pads

-- an open at the account's door
follows : (a : Account) (pads : Pads) (f : SentFrame) → reply (ends_of a) (call_of pads f) ≡ record { answer = (outcome a (call_of pads f)).answer; buffer = (outcome a (call_of pads f)).buffer; after = ends_of (outcome a (call_of pads f)).after }
follows a pads f = ends-follow a (call_of pads f)

-- frame by frame, from any account on
pub lines_follow : (pads : Pads) (a : Account) (fs : List SentFrame)
    → answers pads (ends_of a).door fs ≡ map (λ (s : Step). s.answer) (outcomes a (map (call_of pads) fs))
unfolding answers
lines_follow pads a [] = refl
lines_follow pads a (f ∷ fs) =
    let e = follows a pads f in
    let same : (frame_reply pads (ends_of a).door f).after ≡ (ends_of (outcome a (call_of pads f)).after).door = ap (λ (r : Replied). r.after.door) e in
    ap₂ (λ (x : Answer) (xs : List Answer). x ∷ xs) (ap (λ (r : Replied). r.answer) e)
    (ap (λ (h : EndState). answers pads h fs) same ∙ lines_follow pads (outcome a (call_of pads f)).after fs)

-- ---- how many are of each sort

-- an open that is accepted adds one payload, and is of one sort of the two; a refused one adds none
handed_once : (o : Option Refusal) (a : Account) (e : HandedOver) (place : Option ℕ) (buffer : List ℕ)
    → let s = opens o a e place buffer in
    length s.after.handed ≡ length a.handed + (counts_opened s.answer + counts_mended s.answer)
handed_once (Some r) a e place buffer = omega arith
handed_once None a e None buffer = length-append a.handed (e ∷ [])
handed_once None a e (Some p) buffer = length-append a.handed (e ∷ [])

answers_as_opens : (o : Option Refusal) (a : Account) (e : HandedOver) (place : Option ℕ) (buffer : List ℕ)
    → OfOpen (opens o a e place buffer).answer
answers_as_opens (Some r) a e place buffer = tt
answers_as_opens None a e place buffer = tt

-- an open's step, in the parts that `opens` takes
step_of : (pads : Pads) (a : Account) (f : SentFrame) (P : Step → Type 0)
    → ((o : Option Refusal) (e : HandedOver) (place : Option ℕ) → P (opens o a e place room)) → P (outcome a (call_of pads f))
step_of pads a f P h =
    let key = governs a.door f.slot in
    let w = word (pads f.slot) in
    h
    (first_refusal
    (open_questions (last_slot a AtDoor) f.slot key.width a.allowance f.bytes room pads (finding_under key w a.door.number f.slot f.bytes)))
    (handed_entry a f.slot f.bytes w)
    (place_under key w a.door.number f.slot f.bytes)

pub handed_follow : (pads : Pads) (a : Account) (fs : List SentFrame)
    → let told = map (λ (s : Step). s.answer) (outcomes a (map (call_of pads) fs)) in
    length (account_after a (map (call_of pads) fs)).handed ≡ length a.handed + (sum_by counts_opened told + sum_by counts_mended told)
handed_follow pads a [] = omega arith
handed_follow pads a (f ∷ fs) =
    let s = outcome a (call_of pads f) in
    let told = map (λ (s : Step). s.answer) (outcomes s.after (map (call_of pads) fs)) in
    let here : length s.after.handed ≡ length a.handed + (counts_opened s.answer + counts_mended s.answer) =
    step_of pads a f (λ (t : Step). length t.after.handed ≡ length a.handed + (counts_opened t.answer + counts_mended t.answer))
    (λ o e place. handed_once o a e place room) in
    handed_follow pads s.after fs
    ∙ add_up (length s.after.handed) (length a.handed) (counts_opened s.answer) (counts_mended s.answer) (sum_by counts_opened told) (sum_by counts_mended told) here
    ∙ sym (ap₂ (λ (x y : ℕ). length a.handed + (x + y)) (sum_by-cons counts_opened s.answer told) (sum_by-cons counts_mended s.answer told))
  where
    add_up : (n m a b c d : ℕ) → n ≡ m + (a + b) → n + (c + d) ≡ m + ((a + c) + (b + d))
    add_up n m a b c d e = omega arith

-- an open answers as opens do
all_of_open : (pads : Pads) (a : Account) (fs : List SentFrame) → AllByRecursion OfOpen (map (λ (s : Step). s.answer) (outcomes a (map (call_of pads) fs)))
all_of_open pads a [] = tt
all_of_open pads a (f ∷ fs) =
    (step_of pads a f (λ (t : Step). OfOpen t.answer) (λ o e place. answers_as_opens o a e place room), all_of_open pads (outcome a (call_of pads f)).after fs)

-- one answer for each frame
one_each : (pads : Pads) (a : Account) (fs : List SentFrame) → length (map (λ (s : Step). s.answer) (outcomes a (map (call_of pads) fs))) ≡ length fs
one_each pads a [] = refl
one_each pads a (f ∷ fs) = ap suc (one_each pads (outcome a (call_of pads f)).after fs)

pub lines_follow_the_account : LinesFollowTheAccount
lines_follow_the_account c run d =
    let pads = book_words c.words in
    let fs = c.frames in
    let a = created run in
    let door : new_end (record_meaning c.key) c.key.door c.key.allowance ≡ (ends_of a).door =
    ap (λ (k : Meaning). new_end k c.key.door c.key.allowance) (sym d.key)
    ∙ ap₂ (λ (n : ℕ) (m : ℕ). new_end run.door_key n m) (sym d.number) (sym d.allowance) in
    let lines : answers_under (record_meaning c.key) c ≡ map (λ (s : Step). s.answer) (outcomes a (opens_of c)) =
    ap (λ (h : EndState). answers pads h fs) door ∙ lines_follow pads a fs in
    let told = map (λ (s : Step). s.answer) (outcomes a (opens_of c)) in
    record {
      lines = lines;
      handed =
          ap (λ (xs : List Answer). (totals_of xs).opened + (totals_of xs).mended) lines
          ∙ (let h = handed_follow pads a fs in omega arith);
      each = ap (λ (xs : List Answer). (totals_of xs).opened + (totals_of xs).mended + (totals_of xs).refused) lines ∙ totals_add_up told (all_of_open pads a fs) ∙ one_each pads a fs;
    }

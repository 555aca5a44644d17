-- One call, by cases: what it leaves of a property of the account that it can only add to, and what stays true of every account
-- of a run.
use Rattle.std.proofs.Common.{◌≡◌, ℕ, ◌^◌, ◌<◌, ◌≤◌, Bool, true, false, cond, ltb, leb, List, [], ◌∷◌, ◌++◌, length, Some, None, Option, sym, refl, subst, append-nil}
use Rattle.std.specs.List.{ContainsAt as Has, AllByRecursion}
use Rattle.std.proofs.lemmas.List.{map_push}
use Rattle.std.proofs.ByRecursion.{All-push, All-weaker, has_append_left, has_push}
use Rattle.std.proofs.lemmas.Bool.{eqb-true, ltb-true, leb-true, and_parts}
use Rattle.bits.specs.Bits.{Bytes}
use Rattle.family.specs.Meaning.{Meaning, Lawful}
use Rattle.frames.specs.Limits.{longest_payload, needed_reach}
use Rattle.frames.specs.Frames.{text_size, pad_of, frame_of}
use Rattle.frames.proofs.Shifts.{pad_of-lt}
use Rattle.account.specs.Questions.{Refusal, Question, first_refusal}
use Rattle.account.specs.Calls.{Pads, word, Side, AtReader, AtDoor, Call, Seal, Open, Appoint, Strike, Withdraw}
use Rattle.account.specs.Keys.{Pending, governing, next_key, appoint_questions, strike_questions, withdraw_questions}
use Rattle.account.specs.Sealing.{seal_questions, frame_under}
use Rattle.account.specs.Opening.{open_questions, finding_under, place_under}
use Rattle.account.specs.Account.{EndKeys, SealedFrame, HandedOver, Account, governs, keys_at, last_of, sealed_slots, handed_slots, last_slot, sealed_entry, add_sealed, seals, handed_entry, add_handed, opens, with_end, rekeys, outcome}
use Rattle.account.specs.Promise.{Proper, StrictlyRising}
use Rattle.account.proofs.Asking.{passed}

-- ---- by cases

-- the questions of a call at an account, and what it would add
abbrev pub seal_asked : Account → (slot : ℕ) (payload buffer : List ℕ) (pads : Pads) → List Question
seal_asked a slot payload buffer pads = seal_questions (last_slot a AtReader) slot (governs a.reader slot).width payload buffer pads

abbrev pub open_asked : Account → (slot : ℕ) (frame buffer : List ℕ) (pads : Pads) → List Question
open_asked a slot frame buffer pads =
    open_questions (last_slot a AtDoor) slot (governs a.door slot).width a.allowance frame buffer pads
    (finding_under (governs a.door slot) (word (pads slot)) a.door.number slot frame)

-- What holds before a call holds after it, if it holds after each way to accept one. A refused call leaves the account.
module _ (P : Account → Type 0) (a : Account) (holds : P a) where
  pub after_seal : (e : SealedFrame) (buffer : List ℕ) (o : Option Refusal) → (o ≡ None → P (seals None a e buffer).after) → P (seals o a e buffer).after
  after_seal e buffer (Some r) accepted = holds
  after_seal e buffer None accepted = accepted refl

  pub after_open : (e : HandedOver) (place : Option ℕ) (buffer : List ℕ) (o : Option Refusal) → (o ≡ None → P (opens None a e place buffer).after)
      → P (opens o a e place buffer).after
  after_open e place buffer (Some r) accepted = holds
  after_open e place buffer None accepted = accepted refl

  pub after_change : (side : Side) (e : EndKeys) (used : List Meaning) (o : Option Refusal) → (o ≡ None → P (with_end a side e used))
      → P (rekeys o a side e used).after
  after_change side e used (Some r) accepted = holds
  after_change side e used None accepted = accepted refl

-- the same, over every call
pub step_by : (P : Account → Type 0) (a : Account) (c : Call) → P a
    → ((slot : ℕ) (payload buffer : List ℕ) (pads : Pads) → c ≡ Seal slot payload buffer pads
    → first_refusal (seal_asked a slot payload buffer pads) ≡ None → P (add_sealed a (sealed_entry a slot payload (word (pads slot)))))
    → ((slot : ℕ) (frame buffer : List ℕ) (pads : Pads) → c ≡ Open slot frame buffer pads
    → first_refusal (open_asked a slot frame buffer pads) ≡ None → P (add_handed a (handed_entry a slot frame (word (pads slot)))))
    → ((side : Side) (e : EndKeys) (more : List Meaning) → P (with_end a side e (a.used ++ more)))
    → P (outcome a c).after
step_by P a (Seal slot payload buffer pads) holds sealed opened rekeyed =
    after_seal P a holds (sealed_entry a slot payload (word (pads slot))) buffer (first_refusal (seal_asked a slot payload buffer pads))
    (sealed slot payload buffer pads refl)
step_by P a (Open slot frame buffer pads) holds sealed opened rekeyed =
    after_open P a holds (handed_entry a slot frame (word (pads slot)))
    (place_under (governs a.door slot) (word (pads slot)) a.door.number slot frame)
    buffer
    (first_refusal (open_asked a slot frame buffer pads))
    (opened slot frame buffer pads refl)
step_by P a (Appoint side key start) holds sealed opened rekeyed =
    let e : EndKeys = record { current = (keys_at a side).current; next = Some (record { key = key; start = start }); number = (keys_at a side).number } in
    after_change P a holds side e (a.used ++ key ∷ []) (first_refusal (appoint_questions (keys_at a side).next (last_slot a side) key start))
    (λ _. rekeyed side e (key ∷ []))
step_by P a (Strike side) holds sealed opened rekeyed =
    let e : EndKeys = record { current = next_key (keys_at a side).next (keys_at a side).current; next = None; number = (keys_at a side).number } in
    after_change P a holds side e a.used (first_refusal (strike_questions (keys_at a side).next (last_slot a side)))
    (λ _. subst (λ (u : List Meaning). P (with_end a side e u)) (append-nil a.used) (rekeyed side e []))
step_by P a (Withdraw side) holds sealed opened rekeyed =
    let e : EndKeys = record { current = (keys_at a side).current; next = None; number = (keys_at a side).number } in
    after_change P a holds side e a.used (first_refusal (withdraw_questions (keys_at a side).next (last_slot a side)))
    (λ _. subst (λ (u : List Meaning). P (with_end a side e u)) (append-nil a.used) (rekeyed side e []))

-- ---- what stays true

-- a key that may be used keeps the law, reaches every text, and is among those used
pub record Good (used : List Meaning) (k : Meaning) : Type 0 where
  pub lawful : Lawful k
  pub reaches : k.reach ≡ needed_reach
  pub among : Has used k

-- a sealed frame was made of its payload by a good key
pub record Genuine (used : List Meaning) (e : SealedFrame) : Type 0 where
  pub good : Good used e.key
  pub made : e.frame ≡ frame_of e.key.width (e.key.columns (text_size (length e.payload))) e.pad e.number e.slot e.payload
  pub some_bytes : 1 ≤ length e.payload
  pub short : length e.payload ≤ longest_payload
  pub bytes : Bytes e.payload
  pub pad_below : e.pad < 2 ^ e.key.width

abbrev pub GoodNext : List Meaning → Option Pending → Type 0
GoodNext used None = Unit {0}
GoodNext used (Some p) = Good used p.key

pub record GoodEnd (used : List Meaning) (e : EndKeys) : Type 0 where
  pub now : Good used e.current
  pub later : GoodNext used e.next

pub record Sound (a : Account) : Type 0 where
  pub reader_end : GoodEnd a.used a.reader
  pub door_end : GoodEnd a.used a.door
  pub genuine : AllByRecursion (Genuine a.used) a.sealed
  pub sealed_rise : StrictlyRising 0 (sealed_slots a)
  pub handed_rise : StrictlyRising 0 (handed_slots a)
  pub allowed : a.allowance ≤ 1

good_either : (used : List Meaning) (b : Bool) (k l : Meaning) → Good used k → Good used l → Good used (cond b k l)
good_either used true k l x y = x
good_either used false k l x y = y

-- the key that governs a slot is good
pub good_governing : (used : List Meaning) (current : Meaning) (next : Option Pending) (slot : ℕ) → Good used current → GoodNext used next
    → Good used (governing current next slot)
unfolding governing
good_governing used current None slot g h = g
good_governing used current (Some p) slot g h = good_either used (ltb slot p.start) current p.key g h

pub good_governs : (used : List Meaning) (e : EndKeys) (slot : ℕ) → GoodEnd used e → Good used (governs e slot)
good_governs used e slot g = good_governing used e.current e.next slot g.now g.later

rising_push : (s : ℕ) (xs : List ℕ) (y : ℕ) → StrictlyRising s xs → last_of s xs < y → StrictlyRising s (xs ++ y ∷ [])
rising_push s [] y r h = (h, tt)
rising_push s (x ∷ xs) y r h = (r.0, rising_push x xs y r.1 h)

-- ---- one more key used

good_more : (used : List Meaning) (l k : Meaning) → Good used k → Good (used ++ l ∷ []) k
good_more used l k g = record { lawful = g.lawful; reaches = g.reaches; among = has_append_left used (l ∷ []) k g.among }

next_more : (used : List Meaning) (l : Meaning) (o : Option Pending) → GoodNext used o → GoodNext (used ++ l ∷ []) o
next_more used l None g = tt
next_more used l (Some p) g = good_more used l p.key g

end_more : (used : List Meaning) (l : Meaning) (e : EndKeys) → GoodEnd used e → GoodEnd (used ++ l ∷ []) e
end_more used l e g = record { now = good_more used l e.current g.now; later = next_more used l e.next g.later }

genuine_more : (used : List Meaning) (l : Meaning) (e : SealedFrame) → Genuine used e → Genuine (used ++ l ∷ []) e
genuine_more used l e g =
    record {
      good = good_more used l e.key g.good;
      made = g.made;
      some_bytes = g.some_bytes;
      short = g.short;
      bytes = g.bytes;
      pad_below = g.pad_below;
    }

used_more : (a : Account) (l : Meaning) → Sound a
    → Sound (record { reader = a.reader; door = a.door; allowance = a.allowance; sealed = a.sealed; handed = a.handed; used = a.used ++ l ∷ [] })
used_more a l v =
    record {
      reader_end = end_more a.used l a.reader v.reader_end;
      door_end = end_more a.used l a.door v.door_end;
      genuine = All-weaker (Genuine a.used) (Genuine (a.used ++ l ∷ [])) (genuine_more a.used l) a.sealed v.genuine;
      sealed_rise = v.sealed_rise;
      handed_rise = v.handed_rise;
      allowed = v.allowed;
    }

-- ---- seal and open

made_so : (key : Meaning) (w number slot : ℕ) (payload : List ℕ) → frame_under key w number slot payload
    ≡ frame_of key.width (key.columns (text_size (length payload))) (pad_of key.width w) number slot payload
unfolding frame_under
made_so key w number slot payload = refl

seal_sound : (a : Account) (slot : ℕ) (payload buffer : List ℕ) (pads : Pads) → Sound a → Bytes payload
    → first_refusal (seal_asked a slot payload buffer pads) ≡ None
    → Sound (seals None a (sealed_entry a slot payload (word (pads slot))) buffer).after
seal_sound a slot payload buffer pads v hb accepted =
    let y = passed (seal_asked a slot payload buffer pads) accepted in
    let L = and_parts (leb 1 (length payload)) (leb (length payload) longest_payload) y.1.0 in
    let e = sealed_entry a slot payload (word (pads slot)) in
    record {
      reader_end = v.reader_end;
      door_end = v.door_end;
      genuine =
          All-push (Genuine a.used) a.sealed e v.genuine
          (record {
            good = good_governs a.used a.reader slot v.reader_end;
            made = made_so (governs a.reader slot) (word (pads slot)) a.reader.number slot payload;
            some_bytes = leb-true 1 (length payload) L.0;
            short = leb-true (length payload) longest_payload L.1;
            bytes = hb;
            pad_below = pad_of-lt (governs a.reader slot).width (word (pads slot));
          });
      sealed_rise =
          subst (StrictlyRising 0) (sym (map_push (λ (x : SealedFrame). x.slot) a.sealed e))
          (rising_push 0 (sealed_slots a) slot v.sealed_rise (ltb-true (last_slot a AtReader) slot y.0));
      handed_rise = v.handed_rise;
      allowed = v.allowed;
    }

open_sound : (a : Account) (slot : ℕ) (frame buffer : List ℕ) (pads : Pads) (place : Option ℕ) → Sound a
    → first_refusal (open_asked a slot frame buffer pads) ≡ None
    → Sound (opens None a (handed_entry a slot frame (word (pads slot))) place buffer).after
open_sound a slot frame buffer pads place v accepted =
    let y = passed (open_asked a slot frame buffer pads) accepted in
    record {
      reader_end = v.reader_end;
      door_end = v.door_end;
      genuine = v.genuine;
      sealed_rise = v.sealed_rise;
      handed_rise =
          subst (StrictlyRising 0) (sym (map_push (λ (x : HandedOver). x.slot) a.handed (handed_entry a slot frame (word (pads slot)))))
          (rising_push 0 (handed_slots a) slot v.handed_rise (ltb-true (last_slot a AtDoor) slot y.0));
      allowed = v.allowed;
    }

-- ---- changes of keys

end_good : (a : Account) (side : Side) → Sound a → GoodEnd a.used (keys_at a side)
end_good a AtReader v = v.reader_end
end_good a AtDoor v = v.door_end

put_sound : (a : Account) (side : Side) (e : EndKeys) → Sound a → GoodEnd a.used e → Sound (with_end a side e a.used)
put_sound a AtReader e v g =
    record { reader_end = g; door_end = v.door_end; genuine = v.genuine; sealed_rise = v.sealed_rise; handed_rise = v.handed_rise; allowed = v.allowed }
put_sound a AtDoor e v g =
    record { reader_end = v.reader_end; door_end = g; genuine = v.genuine; sealed_rise = v.sealed_rise; handed_rise = v.handed_rise; allowed = v.allowed }

put_more : (a : Account) (side : Side) (e : EndKeys) (l : Meaning) → Sound a → GoodEnd (a.used ++ l ∷ []) e
    → Sound (with_end a side e (a.used ++ l ∷ []))
put_more a AtReader e l v g =
    let m = used_more a l v in
    record { reader_end = g; door_end = m.door_end; genuine = m.genuine; sealed_rise = m.sealed_rise; handed_rise = m.handed_rise; allowed = m.allowed }
put_more a AtDoor e l v g =
    let m = used_more a l v in
    record { reader_end = m.reader_end; door_end = g; genuine = m.genuine; sealed_rise = m.sealed_rise; handed_rise = m.handed_rise; allowed = m.allowed }

appoint_sound : (a : Account) (side : Side) (key : Meaning) (start : ℕ) → Sound a → Lawful key
    → first_refusal (appoint_questions (keys_at a side).next (last_slot a side) key start) ≡ None
    → GoodEnd (a.used ++ key ∷ [])
    (record { current = (keys_at a side).current; next = Some (record { key = key; start = start }); number = (keys_at a side).number })
appoint_sound a side key start v lawful accepted =
    let y = passed (appoint_questions (keys_at a side).next (last_slot a side) key start) accepted in
    record {
      now = good_more a.used key (keys_at a side).current (end_good a side v).now;
      later = record { lawful = lawful; reaches = eqb-true key.reach needed_reach y.1.1.1.0; among = has_push a.used key };
    }

next_good : (used : List Meaning) (o : Option Pending) (k : Meaning) → GoodNext used o → Good used k → Good used (next_key o k)
next_good used None k h g = g
next_good used (Some p) k h g = h

pub step-sound : (a : Account) (c : Call) → Sound a → Proper c → Sound (outcome a c).after
step-sound a (Seal slot payload buffer pads) v p =
    after_seal Sound a v (sealed_entry a slot payload (word (pads slot))) buffer (first_refusal (seal_asked a slot payload buffer pads))
    (seal_sound a slot payload buffer pads v p)
step-sound a (Open slot frame buffer pads) v p =
    let place = place_under (governs a.door slot) (word (pads slot)) a.door.number slot frame in
    after_open Sound a v (handed_entry a slot frame (word (pads slot))) place buffer (first_refusal (open_asked a slot frame buffer pads))
    (open_sound a slot frame buffer pads place v)
step-sound a (Appoint side key start) v p =
    let e : EndKeys = record { current = (keys_at a side).current; next = Some (record { key = key; start = start }); number = (keys_at a side).number } in
    after_change Sound a v side e (a.used ++ key ∷ []) (first_refusal (appoint_questions (keys_at a side).next (last_slot a side) key start))
    (λ accepted. put_more a side e key v (appoint_sound a side key start v p accepted))
step-sound a (Strike side) v p =
    let g = end_good a side v in
    let e : EndKeys = record { current = next_key (keys_at a side).next (keys_at a side).current; next = None; number = (keys_at a side).number } in
    after_change Sound a v side e a.used (first_refusal (strike_questions (keys_at a side).next (last_slot a side)))
    (λ accepted. put_sound a side e v
    (record { now = next_good a.used (keys_at a side).next (keys_at a side).current g.later g.now; later = tt }))
step-sound a (Withdraw side) v p =
    let e : EndKeys = record { current = (keys_at a side).current; next = None; number = (keys_at a side).number } in
    after_change Sound a v side e a.used (first_refusal (withdraw_questions (keys_at a side).next (last_slot a side)))
    (λ accepted. put_sound a side e v (record { now = (end_good a side v).now; later = tt }))

-- Small runs, worked out call by call: every answer and every refusal of a call occurs.
use Rattle.std.specs.Prelude.{◌≡◌, ℕ, zero, suc, List, [], ◌∷◌, ◌++◌, map, replicate, Some, None}
use Rattle.family.specs.Meaning.{Meaning}
use Rattle.account.specs.Questions.{first_refusal}
use Rattle.account.specs.Calls.{Pads, AtDoor, Call, Seal, Open, Appoint, Strike, Withdraw, Wrote, Opened, Done, Refused}
use Rattle.account.specs.Keys.{key_questions, door_questions}
use Rattle.account.specs.Account.{outcomes, Creations, created}
use Rattle.account.specs.Runs.{Returned, worked_out}

-- A made-up key of a width and a reach. Of the 72 columns of a text with one byte of payload it has zeros, but for the places 61
-- to 63, the last of the bound word, and 71, the last of the payload.
abbrev pub key_of : (width reach : ℕ) → Meaning
key_of width reach =
    record {
      width = width;
      reach = reach;
      distance = 3;
      columns = λ m. replicate 61 0 ++ (3072 ∷ 1536 ∷ 768 ∷ replicate 7 0) ++ (3 ∷ []);
    }

-- the key of both ends
abbrev pub key : Meaning
key = key_of 63 1016

-- the words 2 and 0 for the slots 1 and 2, and no others
abbrev pub pads : Pads
pads slot = elim slot [ zero ↦ None | suc s ↦ elim s [ zero ↦ Some 2 | suc t ↦ elim t [ zero ↦ Some 0 | suc u ↦ None ] ] ]

-- both ends with that key and door number 0
abbrev pub creations : (allowance : ℕ) → Creations
creations allowance = record { reader_key = key; reader_number = 0; door_key = key; door_number = 0; allowance = allowance }

-- a frame of the payload 1 for slot 1: the digest 768 ⊕ 3 under the pad 1 is 770, and 1540 with the spare bit behind it
abbrev pub first_frame : List ℕ
first_frame = 1 ∷ 0 ∷ 0 ∷ 0 ∷ 0 ∷ 0 ∷ 0 ∷ 6 ∷ 4 ∷ []

-- frames for slot 2, where the tag of the payload 0 is 1536: with a payload and the last two bytes of a tag
abbrev pub second_frame : (payload high low : ℕ) → List ℕ
second_frame payload high low = payload ∷ 0 ∷ 0 ∷ 0 ∷ 0 ∷ 0 ∷ 0 ∷ high ∷ low ∷ []

-- a refusal that carries nothing
abbrev pub refused : (number : ℕ) (buffer : List ℕ) → Returned
refused number buffer = record { answer = Refused (record { number = number; slot = None }); buffer = buffer }

-- keys that were changed
abbrev pub done : Returned
done = record { answer = Done; buffer = [] }

-- the account works out these answers and buffers for these calls
abbrev pub WorksOut : Creations → List Call → List Returned → Type 0
WorksOut c calls returned = map worked_out (outcomes (created c) calls) ≡ returned

-- ---- one changed bit allowed

-- the calls
abbrev pub calls : List Call
calls =
    Seal 0 (1 ∷ []) (replicate 10 9) pads
    ∷ Seal 1 [] (replicate 10 9) pads
    ∷ Seal 1 (1 ∷ []) (replicate 8 9) pads
    ∷ Seal 3 (1 ∷ []) (replicate 10 9) pads
    ∷ Seal 1 (1 ∷ []) (replicate 10 9) pads
    ∷ Open 1 first_frame (9 ∷ 9 ∷ []) pads
    ∷ Open 1 first_frame (9 ∷ 9 ∷ []) pads
    ∷ Open 2 (replicate 8 0) (9 ∷ 9 ∷ []) pads
    ∷ Open 2 (second_frame 0 12 1) (9 ∷ 9 ∷ []) pads
    ∷ Open 2 (second_frame 0 12 0) [] pads
    ∷ Open 3 (second_frame 0 12 0) (9 ∷ 9 ∷ []) pads
    ∷ Open 2 (second_frame 1 12 16) (9 ∷ 9 ∷ []) pads
    ∷ Open 2 (second_frame 0 10 0) (9 ∷ 9 ∷ []) pads
    ∷ Strike AtDoor
    ∷ Appoint AtDoor key 1
    ∷ Appoint AtDoor (key_of 44 1016) 2
    ∷ Appoint AtDoor (key_of 63 1000) 2
    ∷ Appoint AtDoor key 2
    ∷ Appoint AtDoor key 3
    ∷ Strike AtDoor
    ∷ Open 2 (second_frame 1 12 0) (9 ∷ 9 ∷ []) pads
    ∷ Withdraw AtDoor
    ∷ Strike AtDoor
    ∷ Appoint AtDoor key 3
    ∷ Withdraw AtDoor
    ∷ Withdraw AtDoor
    ∷ []

-- and what is worked out for them
abbrev pub returned : List Returned
returned =
    refused 11 (replicate 10 9)
    ∷ refused 12 (replicate 10 9)
    ∷ refused 13 (replicate 8 9)
    ∷ record { answer = Refused (record { number = 14; slot = Some 3 }); buffer = replicate 10 9 }
    ∷ record { answer = Wrote 9; buffer = first_frame ++ 9 ∷ [] }
    ∷ record { answer = Opened 1 None; buffer = 1 ∷ 9 ∷ [] }
    ∷ refused 21 (9 ∷ 9 ∷ [])
    ∷ refused 22 (9 ∷ 9 ∷ [])
    ∷ refused 23 (9 ∷ 9 ∷ [])
    ∷ refused 24 []
    ∷ record { answer = Refused (record { number = 25; slot = Some 3 }); buffer = 9 ∷ 9 ∷ [] }
    ∷ refused 27 (9 ∷ 9 ∷ [])
    ∷ refused 28 (9 ∷ 9 ∷ [])
    ∷ refused 34 []
    ∷ refused 32 []
    ∷ refused 41 []
    ∷ refused 42 []
    ∷ done
    ∷ refused 31 []
    ∷ refused 35 []
    ∷ record { answer = Opened 1 (Some 7); buffer = 0 ∷ 9 ∷ [] }
    ∷ refused 36 []
    ∷ done
    ∷ done
    ∷ done
    ∷ refused 34 []
    ∷ []

-- a changed bit of the tag is named and leaves the payload; with no change allowed, one is refused; a door's allowance is 0 or 1
pub record FiguresStand : Type 0 where
  pub one_allowed : WorksOut (creations 1) calls returned
  pub in_the_tag :
      WorksOut (creations 1) (Open 2 (second_frame 0 12 2) (9 ∷ []) pads ∷ []) (record { answer = Opened 1 (Some 70); buffer = 0 ∷ [] } ∷ [])
  pub none_allowed : WorksOut (creations 0) (Open 2 (second_frame 1 12 0) (9 ∷ []) pads ∷ []) (refused 26 (9 ∷ []) ∷ [])
  pub reader_created : first_refusal (key_questions key) ≡ None
  pub door_created : first_refusal (door_questions key 1) ≡ None
  pub door_refused : first_refusal (door_questions key 2) ≡ Some (record { number = 43; slot = None })

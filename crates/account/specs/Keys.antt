-- The keys of an end: the current one, and perhaps the next with the slot from which it governs.
use Rattle.std.specs.Prelude.{ℕ, cond, not, List, [], ◌∷◌, ◌++◌, is_some, Some, None, Option, ◌==◌, nat_le, nat_lt}
use Rattle.family.specs.Meaning.{Meaning}
use Rattle.frames.specs.Limits.{needed_reach, needed_width}
use Rattle.account.specs.Questions.{Question, asks}

-- a change that was appointed and is neither struck nor withdrawn
pub record Pending : Type 0 where
  pub key : Meaning
  pub start : ℕ

-- the key that governs a slot: the next one from its start on, the current one before it
unfoldable pub governing : (current : Meaning) (next : Option Pending) (slot : ℕ) → Meaning
governing current None slot = current
governing current (Some p) slot = cond (nat_lt slot p.start) current p.key

-- the start of a change
abbrev pub start_of : Option Pending → ℕ
start_of (Some p) = p.start
start_of None = 0

-- the key that a strike makes current
abbrev pub next_key : Option Pending → (current : Meaning) → Meaning
next_key (Some p) current = p.key
next_key None current = current

-- what is asked of a key that is to serve an end
abbrev pub key_questions : Meaning → List Question
key_questions key =
    asks (nat_le needed_width key.width) 41
    ∷ asks (key.reach == needed_reach) 42
    ∷ []

-- what is asked of a door's end at its creation
abbrev pub door_questions : Meaning → (allowance : ℕ) → List Question
door_questions key allowance = key_questions key ++ asks (nat_le allowance 1) 43 ∷ []

-- what is asked before a key is appointed: no change is pending, its start is above the last slot, and the key can serve
abbrev pub appoint_questions : Option Pending → (last : ℕ) → Meaning → (start : ℕ) → List Question
appoint_questions next last key start =
    asks (not (is_some next)) 31
    ∷ asks (nat_lt last start) 32
    ∷ key_questions key

-- what is asked before the current key is struck: a change is pending, and this end has done a slot at or above its start
abbrev pub strike_questions : Option Pending → (last : ℕ) → List Question
strike_questions next last =
    asks (is_some next) 34
    ∷ asks (nat_le (start_of next) last) 35
    ∷ []

-- what is asked before the next key is withdrawn: a change is pending, and this end has done no slot at or above its start
abbrev pub withdraw_questions : Option Pending → (last : ℕ) → List Question
withdraw_questions next last =
    asks (is_some next) 34
    ∷ asks (nat_lt last (start_of next)) 36
    ∷ []

-- Entries: a list of calls that is answered where it stands.
use Rattle.std.specs.Prelude.{◌≡◌, ℕ, List, [], ◌∷◌, ◌++◌, Option}
use Rattle.family.specs.Meaning.{Meaning}
use Rattle.account.specs.Calls as account
use Rattle.account.specs.Runs.{Returned}
use Rattle.runs.specs.declared.calls.Reply.{Reply}
use Rattle.runs.specs.declared.entries.Entry.{Entry}
use Rattle.runs.specs.declared.entries.Entry.TheVariants.{Asked, Told, Blank}
use Rattle.runs.specs.Calls.{call_of, returned}

-- the call that an entry asks for, if it does; entries that are told or blank ask for none
module _ {F G P : Type 0} (reader_meaning : F → Meaning) (door_meaning : G → Meaning) (words : P → ℕ → Option ℕ) where
  abbrev pub asked : Entry F G P → List account.Call
  asked (Asked call) = call_of reader_meaning door_meaning words call ∷ []
  asked (Told reply) = []
  asked Blank = []

  -- the calls that a list of entries asks for, in order
  abbrev pub all_asked : List (Entry F G P) → List account.Call
  all_asked [] = []
  all_asked (x ∷ xs) = asked x ++ all_asked xs

-- what an entry that asked was told; one that did not ask is told nothing
abbrev pub told : {F G P : Type 0} → (before after : Entry F G P) → List Returned
told (Asked call) (Asked again) = []
told (Asked call) (Told reply) = returned reply ∷ []
told (Asked call) Blank = []
told (Told reply) after = []
told Blank after = []

-- what the entries that asked were told, in order
abbrev pub all_told : {F G P : Type 0} → (before after : List (Entry F G P)) → List Returned
all_told [] ys = []
all_told (x ∷ xs) [] = []
all_told (x ∷ xs) (y ∷ ys) = told x y ++ all_told xs ys

-- what becomes of an entry: one that asked is told, any other stays as it was
abbrev pub Becomes : {F G P : Type 0} → (before after : Entry F G P) → Type 0
Becomes (Asked call) after = (reply : Reply) × (after ≡ Told reply)
Becomes (Told reply) after = after ≡ Told reply
Becomes Blank after = after ≡ Blank

-- and of each entry of a list, at its own place
abbrev pub AllBecome : {F G P : Type 0} → (before after : List (Entry F G P)) → Type 0
AllBecome [] [] = Unit {0}
AllBecome [] (y ∷ ys) = ⊥
AllBecome (x ∷ xs) [] = ⊥
AllBecome (x ∷ xs) (y ∷ ys) = Becomes x y × AllBecome xs ys

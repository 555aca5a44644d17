-- A file as fields in order, and the one rule by which it is read. The rule alone decides which fault is the first, and its place.
use Rattle.std.specs.Prelude.{ℕ, zero, suc, ◌+◌, cond, List, [], ◌∷◌, length, take, drop, Ok, Err, Result, nat_lt}
use Rattle.linefile.specs.declared.faults.Flaw.{Flaw}
use Rattle.linefile.specs.declared.faults.Flaw.TheVariants.{CutShort, Trailing}

-- What a file was read as; or its first fault, with the place of the first byte of the field that has it.
pub data Read (X : Type 0) : Type 0 where
  Good : X → Read X
  Bad : Flaw → (place : ℕ) → Read X

-- What is still to come of a file reads the bytes that are left, of which the first stands at a place of the file.
abbrev pub Layout : Type 0 → Type 0
Layout X = (at : ℕ) (left : List ℕ) → Read X

-- a field's value, or its fault
unfoldable pub valued : {V X : Type 0} → Result V Flaw → (at : ℕ) (next : V → Read X) → Read X
valued (Ok v) at next = next v
valued (Err flaw) at next = Bad flaw at

-- A field of `size` bytes, and behind it what depends on its value: the file ends before the field does, or the field's bytes have
-- a fault, or it goes on behind the field.
unfoldable pub field : {V X : Type 0} (size : ℕ) (value : List ℕ → Result V Flaw) (next : V → Layout X) → Layout X
field size value next at left =
    cond (nat_lt (length left) size)
    (Bad CutShort at)
    (valued (value (take size left)) at (λ v. next v (at + size) (drop size left)))

-- The end of a file: nothing is left, or bytes are.
unfoldable pub ends : {X : Type 0} → X → Layout X
ends x at [] = Good x
ends x at (b ∷ left) = Bad Trailing at

-- A part of a file, of which Y is read, whatever stands behind it.
abbrev pub Part : (Y X : Type 0) → Type 0
Part Y X = (next : Y → Layout X) → Layout X

-- a part that comes n times
unfoldable pub repeated : {Y X : Type 0} → Part Y X → ℕ → Part (List Y) X
repeated each zero next = next []
repeated each (suc n) next = each (λ y. repeated each n (λ ys. next (y ∷ ys)))

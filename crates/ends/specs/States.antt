-- What an end holds, as the account's words say it: each key is what it means to its family.
use Rattle.std.specs.Prelude.{Some, None, Option}
use Rattle.family.specs.Meaning.{Meaning}
use Rattle.account.specs.Keys.{Pending}
use Rattle.account.specs.Ends.{EndState}
use Rattle.ends.specs.declared.keys.PendingKey.{PendingKey}
use Rattle.ends.specs.declared.end.End.{End}
use Rattle.ends.specs.declared.reader.Reader.{Reader}
use Rattle.ends.specs.declared.door.Door.{Door}

abbrev pub pending_of : {F : Type 0} {f : _} (meaning : F → Meaning) → Option (PendingKey F f) → Option Pending
pending_of meaning None = None
pending_of meaning (Some p) = Some (record { key = meaning p.key.key; start = p.start })

abbrev pub end_state : {F R : Type 0} {f : _} (meaning : F → Meaning) → End F R f → EndState
end_state meaning e =
    record { current = meaning e.current.key; next = pending_of meaning e.pending; number = e.door; last = e.last; allowance = e.allowance }

abbrev pub reader_state : {F : Type 0} {f : _} (meaning : F → Meaning) → End F Reader f → EndState
reader_state meaning e = end_state meaning e

abbrev pub door_state : {F : Type 0} {f : _} (meaning : F → Meaning) → End F Door f → EndState
door_state meaning e = end_state meaning e

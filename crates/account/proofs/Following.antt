-- Ends that stand as the account says reply as it works out.
use Rattle.std.proofs.Common.{arith, ◌≡◌, ℕ, List, [], ◌∷◌, ◌++◌, map, sym, refl, ap, ◌∙◌}
use Rattle.std.proofs.lemmas.List.{map_push}
use Rattle.account.specs.Calls.{word, AtReader, AtDoor, Seal, Open, Appoint, Strike, Withdraw}
use Rattle.account.specs.Account.{SealedFrame, HandedOver, Account, last_of, sealed_slots, handed_slots, sealed_entry, handed_entry}
use Rattle.account.specs.Ends.{EndsFollow}

last_push : (s : ℕ) (xs : List ℕ) (y : ℕ) → last_of s (xs ++ y ∷ []) ≡ y
last_push s [] y = refl
last_push s (x ∷ xs) y = last_push x xs y

sealed-last : (a : Account) (e : SealedFrame) → e.slot ≡ last_of 0 (map (λ (x : SealedFrame). x.slot) (a.sealed ++ e ∷ []))
sealed-last a e = sym (ap (last_of 0) (map_push (λ (x : SealedFrame). x.slot) a.sealed e) ∙ last_push 0 (sealed_slots a) e.slot)

handed_last : (a : Account) (e : HandedOver) → e.slot ≡ last_of 0 (map (λ (x : HandedOver). x.slot) (a.handed ++ e ∷ []))
handed_last a e = sym (ap (last_of 0) (map_push (λ (x : HandedOver). x.slot) a.handed e) ∙ last_push 0 (handed_slots a) e.slot)

pub ends-follow : EndsFollow
ends-follow a (Seal slot payload buffer pads) = grind (arith, sealed-last a (sealed_entry a slot payload (word (pads slot))))
ends-follow a (Open slot frame buffer pads) = grind (arith, handed_last a (handed_entry a slot frame (word (pads slot))))
ends-follow a (Appoint AtReader key start) = grind arith
ends-follow a (Appoint AtDoor key start) = grind arith
ends-follow a (Strike AtReader) = grind arith
ends-follow a (Strike AtDoor) = grind arith
ends-follow a (Withdraw AtReader) = grind arith
ends-follow a (Withdraw AtDoor) = grind arith

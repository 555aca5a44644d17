-- What a finding says of the syndrome.
use Rattle.std.proofs.Common.{◌≡◌, ℕ, ◌<◌, Bool, true, false, cond, eqb, ◌≢◌, List, length, get_or, Some, None, Option, refl}
use Rattle.std.proofs.lemmas.Bool.{eqb-true, eqb-false}
use Rattle.bits.specs.Columns.{units, place}
use Rattle.bits.proofs.Locating.{at_place, at_no_place}
use Rattle.frames.specs.Findings.{Finding, Clean, Column, UnitColumn, Nowhere, finding, found_in_text}

abbrev pub Found : (n : ℕ) (cs : List ℕ) (s : ℕ) → Finding → Type 0
Found n cs s Clean = s ≡ 0
Found n cs s (Column p) = (s ≢ 0) × (p < length cs) × (get_or cs p 0 ≡ s)
Found n cs s (UnitColumn k) = (s ≢ 0) × (k < length (units n)) × (get_or (units n) k 0 ≡ s)
Found n cs s Nowhere = (s ≢ 0) × ((i : ℕ) → i < length cs → get_or cs i 0 ≢ s) × ((k : ℕ) → k < length (units n) → get_or (units n) k 0 ≢ s)

pub found : (n : ℕ) (cs : List ℕ) (s : ℕ) → Found n cs s (finding n cs s)
found n cs s = go (eqb s 0) refl (place s cs) refl (place s (units n)) refl
  where
    go : (b : Bool) → eqb s 0 ≡ b → (o : Option ℕ) → place s cs ≡ o → (u : Option ℕ) → place s (units n) ≡ u
        → Found n cs s (cond b Clean (found_in_text o u))
    go true h o p u q = eqb-true s 0 h
    go false h (Some i) p u q = let r = at_place s cs i p in (eqb-false s 0 h, r.0, r.1)
    go false h None p (Some k) q = let r = at_place s (units n) k q in (eqb-false s 0 h, r.0, r.1)
    go false h None p None q = (eqb-false s 0 h, at_no_place s cs p, at_no_place s (units n) q)

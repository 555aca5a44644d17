-- One field: it is past, it is cut, or its value has a flaw.
use Rattle.std.proofs.Common.{◌≡◌, ℕ, ◌+◌, ◌<◌, ◌≤◌, List, length, take, drop, Ok, Err, Result, ap, ◌∙◌}
use Rattle.std.specs.Int.Digits.{number_from_digits}
use Rattle.std.proofs.lemmas.Bool.{le-ltb, lt-ltb, cond-false, cond-true}
use Rattle.linefile.specs.declared.faults.Flaw.{Flaw}
use Rattle.linefile.specs.declared.faults.Flaw.TheVariants.{CutShort}
use Rattle.linefile.specs.Layout.{Layout, Bad, field, valued}
use Rattle.linefile.specs.File.{number_field}

-- a field that is there: its value decides
pub there : {V X : Type 0} (size : ℕ) (value : List ℕ → Result V Flaw) (next : V → Layout X) (at : ℕ) (bs : List ℕ) → size ≤ length bs → field size value next at bs ≡ valued (value (take size bs)) at (λ v. next v (at + size) (drop size bs))
unfolding field
there size value next at bs h = cond-false _ _ _ (le-ltb (length bs) size h)

pub past : {V X : Type 0} (size : ℕ) (value : List ℕ → Result V Flaw) (next : V → Layout X) (at : ℕ) (bs : List ℕ) (v : V) → size ≤ length bs → value (take size bs) ≡ Ok v → field size value next at bs ≡ next v (at + size) (drop size bs)
unfolding valued
past size value next at bs v h e = there size value next at bs h ∙ ap (λ r. valued r at (λ w. next w (at + size) (drop size bs))) e

pub wrong : {V X : Type 0} (size : ℕ) (value : List ℕ → Result V Flaw) (next : V → Layout X) (at : ℕ) (bs : List ℕ) (flaw : Flaw) → size ≤ length bs → value (take size bs) ≡ Err flaw → field size value next at bs ≡ Bad flaw at
unfolding valued
wrong size value next at bs flaw h e = there size value next at bs h ∙ ap (λ r. valued r at (λ w. next w (at + size) (drop size bs))) e

pub cut : {V X : Type 0} (size : ℕ) (value : List ℕ → Result V Flaw) (next : V → Layout X) (at : ℕ) (bs : List ℕ) → length bs < size → field size value next at bs ≡ Bad CutShort at
unfolding field
cut size value next at bs h = cond-true _ _ _ (lt-ltb (length bs) size h)

-- ---- the same of a field that is a number

pub number_past : {V X : Type 0} (size : ℕ) (value : ℕ → Result V Flaw) (next : V → Layout X) (at : ℕ) (bs : List ℕ) (v : V) → size ≤ length bs → value (number_from_digits 256 (take size bs)) ≡ Ok v → number_field size value next at bs ≡ next v (at + size) (drop size bs)
unfolding number_field
number_past size value next at bs v h e = past size (λ bytes. value (number_from_digits 256 bytes)) next at bs v h e

pub number_wrong : {V X : Type 0} (size : ℕ) (value : ℕ → Result V Flaw) (next : V → Layout X) (at : ℕ) (bs : List ℕ) (flaw : Flaw) → size ≤ length bs → value (number_from_digits 256 (take size bs)) ≡ Err flaw → number_field size value next at bs ≡ Bad flaw at
unfolding number_field
number_wrong size value next at bs flaw h e = wrong size (λ bytes. value (number_from_digits 256 bytes)) next at bs flaw h e

pub number_cut : {V X : Type 0} (size : ℕ) (value : ℕ → Result V Flaw) (next : V → Layout X) (at : ℕ) (bs : List ℕ) → length bs < size → number_field size value next at bs ≡ Bad CutShort at
unfolding number_field
number_cut size value next at bs h = cut size (λ bytes. value (number_from_digits 256 bytes)) next at bs h

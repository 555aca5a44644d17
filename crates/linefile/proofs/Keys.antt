-- The key record: whole, faulty or cut.
use Rattle.std.proofs.Common.{◌≡◌, ℕ, ◌+◌, ◌-◌, ◌*◌, ◌<◌, ◌≤◌, List, length, get_or, take, drop, Ok, Err, Result, MatchResult, sym, refl, ap, ◌∙◌, inl, inr, arith, length-drop}
use Rattle.std.specs.Int.Digits.{number_from_digits}
use Rattle.std.proofs.lemmas.List.{drop-drop, get_or-drop, take_rest}
use Rattle.std.proofs.lemmas.Bool.{cases_lt}
use Rattle.std.proofs.lemmas.Bool.Decides.{nat_tests}
use Rattle.linefile.specs.declared.faults.FileFault.{FileFault}
use Rattle.linefile.specs.declared.faults.Flaw.{Flaw}
use Rattle.linefile.specs.declared.faults.Flaw.TheVariants.{CutShort}
use Rattle.linefile.specs.declared.key.Kind.{Kind}
use Rattle.linefile.specs.declared.key.KeyRecord.{KeyRecord}
use Rattle.linefile.specs.Layout.{Layout, Bad}
use Rattle.linefile.specs.File.{Contents, any, a_kind, an_allowance, number_field, key_record}
use Rattle.linefile.specs.Parsed.{Past, Faulty, whole_fields}
use Rattle.linefile.proofs.OneField.{number_past, number_wrong, number_cut}
use Rattle.linefile.proofs.Bytes.{be1, be4, be8}

-- ---- a field inside the record

any_at : (next : ℕ → Layout Contents) (size at from : ℕ) (bs : List ℕ) → from + size ≤ length bs → number_field size any next (at + from) (drop from bs) ≡ next (number_from_digits 256 (take size (drop from bs))) (at + (from + size)) (drop (from + size) bs)
any_at next size at from bs h =
    let l = length-drop from bs in
    let p : at + from + size ≡ at + (from + size) = omega arith in
    number_past size any next (at + from) (drop from bs) _ (omega arith) refl
    ∙ ap (λ z. next (number_from_digits 256 (take size (drop from bs))) z (drop size (drop from bs))) p
    ∙ ap (λ z. next (number_from_digits 256 (take size (drop from bs))) (at + (from + size)) z) (drop-drop size from bs)

cut_at : {V : Type 0} (value : ℕ → Result V Flaw) (next : V → Layout Contents) (size at from : ℕ) (bs : List ℕ) → length bs < from + size → 1 ≤ size → number_field size value next (at + from) (drop from bs) ≡ Bad CutShort (at + from)
cut_at value next size at from bs h s = let l = length-drop from bs in number_cut size value next (at + from) (drop from bs) (omega arith)

-- ---- the record

-- what stands in the bytes, of a kind and with an allowance
abbrev key_at : Kind → ℕ → List ℕ → KeyRecord
key_at kind allowance bs = record { kind = kind; degree = number_from_digits 256 (take 1 (drop 1 bs)); coefficients = number_from_digits 256 (take 8 (drop 2 bs)); state = number_from_digits 256 (take 8 (drop 10 bs)); door = number_from_digits 256 (take 4 (drop 18 bs)); allowance = allowance }

-- the allowance comes last
abbrev last_field : (next : KeyRecord → Layout Contents) → Kind → List ℕ → Layout Contents
last_field next kind bs = number_field 1 an_allowance (λ allowance. next (key_at kind allowance bs))

to_allowance : (next : KeyRecord → Layout Contents) (at : ℕ) (bs : List ℕ) (kind : Kind) → 22 ≤ length bs → a_kind (number_from_digits 256 (take 1 bs)) ≡ Ok kind → key_record next at bs ≡ last_field next kind bs (at + 22) (drop 22 bs)
unfolding key_record
to_allowance next at bs kind h k =
    number_past 1 a_kind _ at bs kind (omega arith) k
    ∙ any_at _ 1 at 1 bs (omega arith)
    ∙ any_at _ 8 at 2 bs (omega arith)
    ∙ any_at _ 8 at 10 bs (omega arith)
    ∙ any_at _ 4 at 18 bs (omega arith)

pub wrong_kind : (next : KeyRecord → Layout Contents) (at : ℕ) (bs : List ℕ) (flaw : Flaw) → 1 ≤ length bs → a_kind (number_from_digits 256 (take 1 bs)) ≡ Err flaw → key_record next at bs ≡ Bad flaw at
unfolding key_record
wrong_kind next at bs flaw h k = number_wrong 1 a_kind _ at bs flaw h k

-- a kind that was told with the place of its field
pub told-wrong_kind : (at : ℕ) (bs : List ℕ) (r : Result Kind Flaw) (f : FileFault) → 1 ≤ length bs → r ≡ a_kind (get_or bs 0 0) → MatchResult r (λ _. ⊥) (λ flaw. f ≡ record { flaw = flaw; place = at }) → Faulty key_record at bs f
told-wrong_kind at bs (Ok k) f h e m = absurd m
told-wrong_kind at bs (Err flaw) f h e m = λ next. wrong_kind next at bs flaw h (ap a_kind (be1 bs h) ∙ sym e) ∙ ap (λ g. Bad g.flaw g.place) (sym m)

pub told-kind : (kind : Kind) (n : ℕ) (r : Result Kind Flaw) → r ≡ a_kind n → MatchResult r (λ k. kind ≡ k) (λ _. ⊥) → a_kind n ≡ Ok kind
told-kind kind n (Ok k) e m = sym e ∙ ap (λ z. Ok z) (sym m)
told-kind kind n (Err flaw) e m = absurd m

pub wrong_allowance : (next : KeyRecord → Layout Contents) (at : ℕ) (bs : List ℕ) (kind : Kind) (flaw : Flaw) → 23 ≤ length bs → a_kind (number_from_digits 256 (take 1 bs)) ≡ Ok kind → an_allowance (number_from_digits 256 (take 1 (drop 22 bs))) ≡ Err flaw → key_record next at bs ≡ Bad flaw (at + 22)
wrong_allowance next at bs kind flaw h k a =
    let l = length-drop 22 bs in
    to_allowance next at bs kind (omega arith) k
    ∙ number_wrong 1 an_allowance _ (at + 22) (drop 22 bs) flaw (omega arith) a

pub no_key : (next : KeyRecord → Layout Contents) (at : ℕ) (bs : List ℕ) → length bs < 1 → key_record next at bs ≡ Bad CutShort at
unfolding key_record
no_key next at bs h = number_cut 1 a_kind _ at bs h

pub cut_key : (next : KeyRecord → Layout Contents) (at : ℕ) (bs : List ℕ) (kind : Kind) → 1 ≤ length bs → length bs < 23 → a_kind (number_from_digits 256 (take 1 bs)) ≡ Ok kind → key_record next at bs ≡ Bad CutShort (at + whole_fields (length bs))
unfolding key_record
cut_key next at bs kind one h k =
    number_past 1 a_kind _ at bs kind (omega arith) k
    ∙ elim (cases_lt (length bs) 2) [
      | inl a ↦ cut_at any _ 1 at 1 bs a (omega arith) ∙ ap (λ z. Bad CutShort (at + z)) (grind (arith, nat_tests))
      | inr a ↦ any_at _ 1 at 1 bs a ∙ elim (cases_lt (length bs) 10) [
        | inl b ↦ cut_at any _ 8 at 2 bs b (omega arith) ∙ ap (λ z. Bad CutShort (at + z)) (grind (arith, nat_tests))
        | inr b ↦ any_at _ 8 at 2 bs b ∙ elim (cases_lt (length bs) 18) [
          | inl c ↦ cut_at any _ 8 at 10 bs c (omega arith) ∙ ap (λ z. Bad CutShort (at + z)) (grind (arith, nat_tests))
          | inr c ↦ any_at _ 8 at 10 bs c ∙ elim (cases_lt (length bs) 22) [
            | inl d ↦ cut_at any _ 4 at 18 bs d (omega arith) ∙ ap (λ z. Bad CutShort (at + z)) (grind (arith, nat_tests))
            | inr d ↦ any_at _ 4 at 18 bs d ∙ cut_at an_allowance _ 1 at 22 bs h (omega arith) ∙ ap (λ z. Bad CutShort (at + z)) (grind (arith, nat_tests))
          ]
        ]
      ]
    ]

-- What a slice pattern over the record names.
pub key-past : (at : ℕ) (bs : List ℕ) (kind : Kind) (allowance : ℕ) → 23 ≤ length bs → a_kind (get_or bs 0 0) ≡ Ok kind → an_allowance (get_or bs 22 0) ≡ Ok allowance
    → (c : ℕ) → c ≡ get_or bs 2 0 * 72057594037927936 + get_or bs 3 0 * 281474976710656 + get_or bs 4 0 * 1099511627776 + get_or bs 5 0 * 4294967296 + get_or bs 6 0 * 16777216 + get_or bs 7 0 * 65536 + get_or bs 8 0 * 256 + get_or bs 9 0
    → (s : ℕ) → s ≡ get_or bs 10 0 * 72057594037927936 + get_or bs 11 0 * 281474976710656 + get_or bs 12 0 * 1099511627776 + get_or bs 13 0 * 4294967296 + get_or bs 14 0 * 16777216 + get_or bs 15 0 * 65536 + get_or bs 16 0 * 256 + get_or bs 17 0
    → (d : ℕ) → d ≡ get_or bs 18 0 * 16777216 + get_or bs 19 0 * 65536 + get_or bs 20 0 * 256 + get_or bs 21 0
    → Past key_record at bs (record { kind = kind; degree = get_or bs 1 0; coefficients = c; state = s; door = d; allowance = allowance }) (at + 23) (take (length bs - 23) (drop 23 bs))
key-past at bs kind allowance h k a c ce s se d de =
    let e0 : number_from_digits 256 (take 1 bs) ≡ get_or bs 0 0 = be1 bs (omega arith) in
    let e1 : number_from_digits 256 (take 1 (drop 1 bs)) ≡ get_or bs 1 0 = be1 (drop 1 bs) (let l = length-drop 1 bs in omega arith) ∙ get_or-drop 1 bs 0 0 in
    let e2 : number_from_digits 256 (take 8 (drop 2 bs)) ≡ c = be8 (drop 2 bs) (let l = length-drop 2 bs in omega arith) ∙ rw (get_or-drop 2 bs 0 0, get_or-drop 2 bs 1 0, get_or-drop 2 bs 2 0, get_or-drop 2 bs 3 0, get_or-drop 2 bs 4 0, get_or-drop 2 bs 5 0, get_or-drop 2 bs 6 0, get_or-drop 2 bs 7 0) (sym ce) in
    let e3 : number_from_digits 256 (take 8 (drop 10 bs)) ≡ s = be8 (drop 10 bs) (let l = length-drop 10 bs in omega arith) ∙ rw (get_or-drop 10 bs 0 0, get_or-drop 10 bs 1 0, get_or-drop 10 bs 2 0, get_or-drop 10 bs 3 0, get_or-drop 10 bs 4 0, get_or-drop 10 bs 5 0, get_or-drop 10 bs 6 0, get_or-drop 10 bs 7 0) (sym se) in
    let e4 : number_from_digits 256 (take 4 (drop 18 bs)) ≡ d = be4 (drop 18 bs) (let l = length-drop 18 bs in omega arith) ∙ rw (get_or-drop 18 bs 0 0, get_or-drop 18 bs 1 0, get_or-drop 18 bs 2 0, get_or-drop 18 bs 3 0) (sym de) in
    let e5 : number_from_digits 256 (take 1 (drop 22 bs)) ≡ get_or bs 22 0 = be1 (drop 22 bs) (let l = length-drop 22 bs in omega arith) ∙ get_or-drop 22 bs 0 0 in
    let same : key_at kind allowance bs ≡ record { kind = kind; degree = get_or bs 1 0; coefficients = c; state = s; door = d; allowance = allowance } = rw (e1, e2, e3, e4) in
    let t = take_rest bs 23 in
    let p : at + 22 + 1 ≡ at + 23 = omega arith in
    let l = length-drop 22 bs in
    record {
      goes = λ next.
          to_allowance next at bs kind (omega arith) (ap a_kind e0 ∙ k)
          ∙ number_past 1 an_allowance _ (at + 22) (drop 22 bs) allowance (omega arith) (ap an_allowance e5 ∙ a)
          ∙ ap (λ z. next z (at + 22 + 1) (drop 1 (drop 22 bs))) same
          ∙ ap (λ z. next (record { kind = kind; degree = get_or bs 1 0; coefficients = c; state = s; door = d; allowance = allowance }) z (drop 1 (drop 22 bs))) p
          ∙ ap (λ z. next (record { kind = kind; degree = get_or bs 1 0; coefficients = c; state = s; door = d; allowance = allowance }) (at + 23) z) (drop-drop 1 22 bs ∙ sym t);
    }

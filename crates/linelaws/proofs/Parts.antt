-- One field, written and read.
use Rattle.std.proofs.Common.{◌≡◌, ℕ, ◌+◌, ◌-◌, ◌*◌, ◌^◌, ◌<◌, ◌≤◌, Bool, true, false, ltb, List, [], ◌∷◌, ◌++◌, length, take, drop, Ok, Err, Result, sym, refl, ap, ◌∙◌, subst, inl, inr, append_assoc, arith, length-append}
use Rattle.std.specs.Int.Digits.{number_from_digits}
use Rattle.std.proofs.Math.Seq.{take-append-add}
use Rattle.std.proofs.lemmas.List.{take_at, drop_at, length-take-le, take-append-drop}
use Rattle.std.proofs.lemmas.Bool.{cases_lt, cond-false, cond-true, ltb-false}
use Rattle.std.proofs.ByRecursion.{All-take, All-drop}
use Rattle.bits.specs.Bits.{Bytes}
use Rattle.bits.specs.Bytes.{bytes_of}
use Rattle.bits.proofs.BytesOfNumbers.{length-bytes_of}
use Rattle.linefile.specs.declared.faults.Flaw.{Flaw}
use Rattle.linefile.specs.declared.faults.Flaw.TheVariants.{CutShort, Trailing}
use Rattle.linefile.specs.Layout.{Layout, Good, Bad, Read, field, valued, ends}
use Rattle.linefile.specs.File.{number_field, bytes_field}
use Rattle.linefile.proofs.OneField.{past, cut}
use Rattle.linelaws.proofs.Numbers.{number_bytes_of, bytes_of-number, number_fits}

-- ---- written

-- Bytes are read as x wherever they stand; cut short, and with more behind them, they are refused as that.
pub record Reads {X : Type 0} (layout : Layout X) (bs : List ℕ) (x : X) : Type 0 where
  pub whole : (at : ℕ) → layout at bs ≡ Good x
  pub short : (at n : ℕ) → n < length bs → (place : ℕ) × (place ≤ at + n) × (layout at (take n bs) ≡ Bad CutShort place)
  pub long : (at b : ℕ) (more : List ℕ) → layout at (bs ++ (b ∷ more)) ≡ Bad Trailing (at + length bs)

pub reads_end : {X : Type 0} (x : X) → Reads (ends x) [] x
unfolding ends
reads_end x = record { whole = λ at. refl; short = λ at n h. absurd (omega arith); long = λ at b more. ap (λ p. Bad Trailing p) (let e : at ≡ at + 0 = omega arith in e) }

-- a field that is there, whatever is behind it
past_front : {V X : Type 0} (size : ℕ) (value : List ℕ → Result V Flaw) (next : V → Layout X) (v : V) (b rest : List ℕ) (at : ℕ) → length b ≡ size → value b ≡ Ok v → field size value next at (b ++ rest) ≡ next v (at + size) rest
past_front size value next v b rest at l e =
    past size value next at (b ++ rest) v (omega (arith, length-append b rest)) (ap value (take_at b rest size l) ∙ e)
    ∙ ap (λ z. next v (at + size) z) (drop_at b rest size l)

take-front : (b rest : List ℕ) (size n : ℕ) → length b ≡ size → size ≤ n → take n (b ++ rest) ≡ b ++ take (n - size) rest
take-front b rest size n l h =
    let e : n ≡ length b + (n - size) = omega arith in
    ap (λ k. take k (b ++ rest)) e ∙ take-append-add b rest (n - size)

pub reads_field : {V X : Type 0} (size : ℕ) (value : List ℕ → Result V Flaw) (next : V → Layout X) (v : V) (b rest : List ℕ) (x : X) → length b ≡ size → value b ≡ Ok v → Reads (next v) rest x → Reads (field size value next) (b ++ rest) x
reads_field {X = X} size value next v b rest x l e r =
    record {
      whole = λ at. past_front size value next v b rest at l e ∙ r.whole (at + size);
      short = short;
      long = λ at c more.
          ap (λ z. field size value next at z) (append_assoc b rest (c ∷ more))
          ∙ past_front size value next v b (rest ++ (c ∷ more)) at l e
          ∙ r.long (at + size) c more
          ∙ ap (λ p. Bad Trailing p) (let q : at + size + length rest ≡ at + length (b ++ rest) = omega (arith, length-append b rest) in q);
    }
  where
    short : (at n : ℕ) → n < length (b ++ rest) → (place : ℕ) × (place ≤ at + n) × (field size value next at (take n (b ++ rest)) ≡ Bad CutShort place)
    short at n h =
        elim (cases_lt n size) [
          | inl a ↦ (at, omega arith, cut size value next at (take n (b ++ rest)) (omega (arith, length-take-le n (b ++ rest) (omega arith))))
          | inr a ↦
              let q = r.short (at + size) (n - size) (omega (arith, length-append b rest)) in
              (q.0, omega (arith, q.1), ap (λ z. field size value next at z) (take-front b rest size n l a) ∙ past_front size value next v b (take (n - size) rest) at l e ∙ q.2)
        ]

pub reads_number : {V X : Type 0} (size : ℕ) (value : ℕ → Result V Flaw) (next : V → Layout X) (v : V) (n : ℕ) (rest : List ℕ) (x : X) → n < 2 ^ (8 * size) → value n ≡ Ok v → Reads (next v) rest x → Reads (number_field size value next) (bytes_of size n ++ rest) x
unfolding number_field
reads_number size value next v n rest x h e r =
    reads_field size (λ bytes. value (number_from_digits 256 bytes)) next v (bytes_of size n) rest x (length-bytes_of size n) (ap value (number_bytes_of size n h) ∙ e) r

pub reads_bytes : {X : Type 0} (size : ℕ) (next : List ℕ → Layout X) (b rest : List ℕ) (x : X) → length b ≡ size → Reads (next b) rest x → Reads (bytes_field size next) (b ++ rest) x
unfolding bytes_field
reads_bytes size next b rest x l r = reads_field size (λ bytes. Ok bytes) next b b rest x l refl r

-- ---- read

-- What a field that was read leaves: its value, and its bytes ahead of the rest.
pub record Taken {V X : Type 0} (size : ℕ) (value : List ℕ → Result V Flaw) (next : V → Layout X) (bs : List ℕ) (x : X) : Type 0 where
  pub is : V
  pub front : List ℕ
  pub rest : List ℕ
  pub place : ℕ
  pub joins : bs ≡ front ++ rest
  pub sized : length front ≡ size
  pub valued_as : value front ≡ Ok is
  pub goes : next is place rest ≡ Good x
  pub front_bytes : Bytes front
  pub rest_bytes : Bytes rest

pub bad_good : {X : Type 0} (flaw : Flaw) (at : ℕ) (x : X) → Bad flaw at ≡ Good x → ⊥
bad_good flaw at x e = let z : ◌≡◌ {A = ℕ} 0 1 = cc in omega arith

through : {V X : Type 0} (r : Result V Flaw) (at : ℕ) (next : V → Read X) (x : X) → valued r at next ≡ Good x → (v : V) × (r ≡ Ok v) × (next v ≡ Good x)
unfolding valued
through (Ok v) at next x e = (v, refl, e)
through (Err flaw) at next x e = absurd (bad_good flaw at x e)

pub taken : {V X : Type 0} (size : ℕ) (value : List ℕ → Result V Flaw) (next : V → Layout X) (at : ℕ) (bs : List ℕ) (x : X) → Bytes bs → field size value next at bs ≡ Good x → Taken size value next bs x
unfolding field
taken size value next at bs x u e = go (ltb (length bs) size) refl
  where
    go : (t : Bool) → ltb (length bs) size ≡ t → Taken size value next bs x
    go true p = absurd (bad_good CutShort at x (sym (cond-true _ _ _ p) ∙ e))
    go false p =
        let h : size ≤ length bs = ltb-false (length bs) size p in
        let t = through (value (take size bs)) at (λ v. next v (at + size) (drop size bs)) x (sym (cond-false _ _ _ p) ∙ e) in
        record {
          is = t.0;
          front = take size bs;
          rest = drop size bs;
          place = at + size;
          joins = sym (take-append-drop size bs);
          sized = length-take-le size bs h;
          valued_as = t.1;
          goes = t.2;
          front_bytes = All-take (λ b. b < 256) size bs u;
          rest_bytes = All-drop (λ b. b < 256) size bs u;
        }

-- the same of a field of bytes
pub record TakenBytes {X : Type 0} (size : ℕ) (next : List ℕ → Layout X) (bs : List ℕ) (x : X) : Type 0 where
  pub is : List ℕ
  pub rest : List ℕ
  pub place : ℕ
  pub joins : bs ≡ is ++ rest
  pub sized : length is ≡ size
  pub goes : next is place rest ≡ Good x
  pub in_bytes : Bytes is
  pub rest_bytes : Bytes rest

pub taken_bytes : {X : Type 0} (size : ℕ) (next : List ℕ → Layout X) (at : ℕ) (bs : List ℕ) (x : X) → Bytes bs → bytes_field size next at bs ≡ Good x → TakenBytes size next bs x
unfolding bytes_field
taken_bytes size next at bs x u e =
    let t = taken size (λ bytes. Ok bytes) next at bs x u e in
    let same : t.is ≡ t.front = cc in
    record {
      is = t.front;
      rest = t.rest;
      place = t.place;
      joins = t.joins;
      sized = t.sized;
      goes = ap (λ b. next b t.place t.rest) (sym same) ∙ t.goes;
      in_bytes = t.front_bytes;
      rest_bytes = t.rest_bytes;
    }

-- the same of a field that is a number, where the value tells the number
pub record TakenNumber {V X : Type 0} (size : ℕ) (value : ℕ → Result V Flaw) (told : V → ℕ) (next : V → Layout X) (bs : List ℕ) (x : X) : Type 0 where
  pub is : V
  pub rest : List ℕ
  pub place : ℕ
  pub joins : bs ≡ bytes_of size (told is) ++ rest
  pub fits : told is < 2 ^ (8 * size)
  pub valued_as : value (told is) ≡ Ok is
  pub goes : next is place rest ≡ Good x
  pub rest_bytes : Bytes rest

pub taken_number : {V X : Type 0} (size : ℕ) (value : ℕ → Result V Flaw) (told : V → ℕ) (next : V → Layout X) → ((n : ℕ) (v : V) → value n ≡ Ok v → told v ≡ n) → (at : ℕ) (bs : List ℕ) (x : X) → Bytes bs → number_field size value next at bs ≡ Good x → TakenNumber size value told next bs x
unfolding number_field
taken_number size value told next back at bs x u e =
    let t = taken size (λ bytes. value (number_from_digits 256 bytes)) next at bs x u e in
    let n : told t.is ≡ number_from_digits 256 t.front = back (number_from_digits 256 t.front) t.is t.valued_as in
    record {
      is = t.is;
      rest = t.rest;
      place = t.place;
      joins = t.joins ∙ ap (λ z. z ++ t.rest) (sym (ap (bytes_of size) n ∙ bytes_of-number size t.front t.sized t.front_bytes));
      fits = subst (λ z. z < 2 ^ (8 * size)) (sym n) (number_fits size t.front t.sized t.front_bytes);
      valued_as = ap value n ∙ t.valued_as;
      goes = t.goes;
      rest_bytes = t.rest_bytes;
    }

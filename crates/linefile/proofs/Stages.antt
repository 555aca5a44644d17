-- The stages of the reading, over plain values.
use Rattle.std.proofs.Common.{◌≡◌, ℕ, suc, ◌+◌, ◌-◌, ◌<◌, ◌≤◌, List, [], ◌∷◌, ◌++◌, length, map, take, drop, set, Ok, Err, Result, MatchResult, sym, refl, ap, ◌∙◌, subst, append_assoc, arith, length-append, length-set}
use Rattle.std.specs.Int.Digits.{number_from_digits}
use Rattle.std.specs.Result.{IsErrAnd}
use Rattle.std.proofs.lemmas.List.{append-nil, map-append, take-append-le, take_all, take_more_set}
use Rattle.std.proofs.lemmas.Bool.{cond-true, cond-false, le-leb, lt-leb, eq-eqb, ne_eqb}
use Rattle.linefile.specs.declared.faults.FileFault.{FileFault}
use Rattle.linefile.specs.declared.faults.Flaw.{Flaw}
use Rattle.linefile.specs.declared.faults.Flaw.TheVariants.{OutOfLimits}
use Rattle.linefile.specs.Layout.{Layout, Part, Bad, repeated}
use Rattle.linefile.specs.File.{Contents, just, up_to, number_field, bytes_field}
use Rattle.linefile.specs.Parsed.{Taken, Cut, Past, Faulty}
use Rattle.linefile.proofs.OneField.{past, cut, number_past, number_wrong, number_cut}

-- ---- the exit of a `?`, which passes a fault on

pub passed_on : {T : Type 0} (P : T → Type 0) (Q : FileFault → Type 0) (r : Result T FileFault) (f : FileFault) → IsErrAnd r (λ y. y ≡ f) → Q f → MatchResult r P Q
passed_on P Q (Ok x) f h q = absurd h
passed_on P Q (Err y) f h q = subst Q (sym h) q

-- ---- one part, and then another

pub then_past : {Y Z : Type 0} {at : ℕ} {bs : List ℕ} {y : Y} {p : ℕ} {r : List ℕ} {z : Z} {p' : ℕ} {r' : List ℕ} (first : Part Y Contents) (second : Y → Part Z Contents) → Past first at bs y p r → Past (second y) p r z p' r' → Past (λ next. first (λ v. second v next)) at bs z p' r'
then_past first second a b = record { goes = λ next. a.goes (λ v. second v next) ∙ b.goes next }

pub first_faulty : {Y Z : Type 0} (first : Part Y Contents) (second : Y → Part Z Contents) (at : ℕ) (bs : List ℕ) (f : FileFault) → Faulty first at bs f → Faulty (λ next. first (λ v. second v next)) at bs f
first_faulty first second at bs f a next = a (λ v. second v next)

pub then_faulty : {Y Z : Type 0} {at : ℕ} {bs : List ℕ} {y : Y} {p : ℕ} {r : List ℕ} (first : Part Y Contents) (second : Y → Part Z Contents) (f : FileFault) → Past first at bs y p r → Faulty (second y) p r f → Faulty (λ next. first (λ v. second v next)) at bs f
then_faulty first second f a b = λ next. a.goes (λ v. second v next) ∙ b next

-- ---- a field that is a number

pub value_past : {V : Type 0} {size at : ℕ} {bs b : List ℕ} {place : ℕ} {rest : List ℕ} {n : ℕ} {v : V} (value : ℕ → Result V Flaw) → Taken size at bs b place rest → n ≡ number_from_digits 256 b → value n ≡ Ok v → Past (number_field size value) at bs v place rest
value_past {size = size} {at = at} {bs = bs} {place = place} {v = v} value h e ok =
    record {
      goes = λ next.
          number_past size value next at bs v h.there (ap (λ z. value (number_from_digits 256 z)) (sym h.value) ∙ ap value (sym e) ∙ ok)
          ∙ ap (λ z. next v z (drop size bs)) (sym h.place_is)
          ∙ ap (λ z. next v place z) (sym h.rest_is);
    }

pub value_wrong : {V : Type 0} {size at : ℕ} {bs b : List ℕ} {place : ℕ} {rest : List ℕ} {n : ℕ} {flaw : Flaw} (value : ℕ → Result V Flaw) → Taken size at bs b place rest → n ≡ number_from_digits 256 b → value n ≡ Err flaw → Faulty (number_field size value) at bs (record { flaw = flaw; place = at })
value_wrong {size = size} {at = at} {bs = bs} {flaw = flaw} value h e err =
    λ next. number_wrong size value next at bs flaw h.there (ap (λ z. value (number_from_digits 256 z)) (sym h.value) ∙ ap value (sym e) ∙ err)

pub value_cut : {V : Type 0} {size at : ℕ} {bs : List ℕ} {f : FileFault} (value : ℕ → Result V Flaw) → Cut size at bs f → Faulty (number_field size value) at bs f
value_cut {size = size} {at = at} {bs = bs} value c = λ next. number_cut size value next at bs c.ends ∙ ap (λ g. Bad g.flaw g.place) (sym c.told)

-- ---- a field of bytes as they are

pub bytes_past : {size at : ℕ} {bs b : List ℕ} {place : ℕ} {rest : List ℕ} → Taken size at bs b place rest → Past (bytes_field size) at bs b place rest
unfolding bytes_field
bytes_past {size = size} {at = at} {bs = bs} {b = b} {place = place} h =
    record {
      goes = λ next.
          past size (λ bytes. Ok bytes) next at bs b h.there (ap (λ z. Ok z) (sym h.value))
          ∙ ap (λ z. next b z (drop size bs)) (sym h.place_is)
          ∙ ap (λ z. next b place z) (sym h.rest_is);
    }

pub bytes_cut : {size at : ℕ} {bs : List ℕ} {f : FileFault} → Cut size at bs f → Faulty (bytes_field size) at bs f
unfolding bytes_field
bytes_cut {size = size} {at = at} {bs = bs} c = λ next. cut size (λ bytes. Ok bytes) next at bs c.ends ∙ ap (λ g. Bad g.flaw g.place) (sym c.told)

-- ---- what a number may be

pub is_only : (only n : ℕ) → n ≡ only → just only n ≡ Ok only
is_only only n e = cond-true _ _ _ (eq-eqb n only e) ∙ ap (λ z. Ok z) e

pub not_only : (only n : ℕ) → (n ≡ only → ⊥) → just only n ≡ Err OutOfLimits
not_only only n h = cond-false _ _ _ (ne_eqb n only h)

pub within : (most n : ℕ) → n ≤ most → up_to most n ≡ Ok n
within most n h = cond-true _ _ _ (le-leb n most h)

pub beyond : (most n : ℕ) → most < n → up_to most n ≡ Err OutOfLimits
beyond most n h = cond-false _ _ _ (lt-leb n most h)

-- ---- a part that comes again and again: what is left gives the whole

pub record SoFar {Y : Type 0} (each : Part Y Contents) (count at : ℕ) (bs : List ℕ) (i : ℕ) (items : List Y) (place : ℕ) (rest : List ℕ) : Type 0 where
  pub goes : (next : List Y → Layout Contents) → repeated each count next at bs ≡ repeated each (count - i) (λ ys. next (items ++ ys)) place rest

pub so_more : {Y : Type 0} {each : Part Y Contents} {count at : ℕ} {bs : List ℕ} {i : ℕ} {items : List Y} {place : ℕ} {rest : List ℕ} {y : Y} {place' : ℕ} {rest' : List ℕ} {items' : List Y} → SoFar each count at bs i items place rest → i < count → Past each place rest y place' rest' → items' ≡ items ++ (y ∷ []) → SoFar each count at bs (i + 1) items' place' rest'
unfolding repeated
so_more {Y = Y} {each = each} {count = count} {i = i} {items = items} {place = place} {rest = rest} {y = y} {place' = place'} {rest' = rest'} s h p e =
    let n : count - i ≡ suc (count - (i + 1)) = omega arith in
    record {
      goes = λ next.
          s.goes next
          ∙ ap (λ k. repeated each k (λ ys. next (items ++ ys)) place rest) n
          ∙ p.goes (λ v. repeated each (count - (i + 1)) (λ ys. next (items ++ (v ∷ ys))))
          ∙ ap (λ g. repeated each (count - (i + 1)) g place' rest') (longer next)
          ∙ ap (λ is. repeated each (count - (i + 1)) (λ ys. next (is ++ ys)) place' rest') (sym e);
    }
  where
    longer : (next : List Y → Layout Contents) → ◌≡◌ {A = List Y → Layout Contents} (λ ys. next (items ++ (y ∷ ys))) (λ ys. next ((items ++ (y ∷ [])) ++ ys))
    longer next = simp append_assoc

pub so_faulty : {Y : Type 0} {each : Part Y Contents} {count at : ℕ} {bs : List ℕ} {i : ℕ} {items : List Y} {place : ℕ} {rest : List ℕ} (f : FileFault) → SoFar each count at bs i items place rest → i < count → Faulty each place rest f → Faulty (repeated each count) at bs f
unfolding repeated
so_faulty {each = each} {count = count} {i = i} {items = items} {place = place} {rest = rest} f s h p =
    let n : count - i ≡ suc (count - (i + 1)) = omega arith in
    λ next.
    s.goes next
    ∙ ap (λ k. repeated each k (λ ys. next (items ++ ys)) place rest) n
    ∙ p (λ v. repeated each (count - (i + 1)) (λ ys. next (items ++ (v ∷ ys))))

pub so_all : {Y : Type 0} {each : Part Y Contents} {count at : ℕ} {bs : List ℕ} {i : ℕ} {items : List Y} {place : ℕ} {rest : List ℕ} → SoFar each count at bs i items place rest → count ≤ i → Past (repeated each count) at bs items place rest
unfolding repeated
so_all {each = each} {count = count} {i = i} {items = items} {place = place} {rest = rest} s h =
    let n : count - i ≡ 0 = omega arith in
    record {
      goes = λ next.
          s.goes next
          ∙ ap (λ k. repeated each k (λ ys. next (items ++ ys)) place rest) n
          ∙ ap (λ is. next is place rest) (append-nil items);
    }

-- ---- items that are read one behind the other, of which the first are kept, as many as there is room for

pub record Filled {Y T : Type 0} (each : Part Y Contents) (sense : T → Y) (count at : ℕ) (bs : List ℕ) (room i place : ℕ) (rest : List ℕ) (kept : List T) : Type 0 where
  pub items : List T
  pub many : length items ≡ i
  pub so_far : SoFar each count at bs i (map sense items) place rest
  pub held : take i kept ≡ take room items
  pub size : length kept ≡ room

pub filled_none : {Y T : Type 0} (each : Part Y Contents) (sense : T → Y) (count at : ℕ) (bs : List ℕ) (kept : List T) → Filled each sense count at bs (length kept) 0 at bs kept
filled_none each sense count at bs kept =
    let z : count ≡ count - 0 = omega arith in
    record { items = []; many = refl; so_far = record { goes = λ next. ap (λ n. repeated each n next at bs) z }; held = sym (take_all (length kept) [] (omega arith)); size = refl }

-- one more, which is kept
pub filled_kept : {Y T : Type 0} {each : Part Y Contents} {sense : T → Y} {count at : ℕ} {bs : List ℕ} {room i place : ℕ} {rest : List ℕ} {kept : List T} {x : T} {place' : ℕ} {rest' : List ℕ} → Filled each sense count at bs room i place rest kept → i < count → Past each place rest (sense x) place' rest' → i < room → Filled each sense count at bs room (i + 1) place' rest' (set kept i x)
filled_kept {sense = sense} {room = room} {i = i} {kept = kept} {x = x} f h p k =
    let many = f.many in
    let size = f.size in
    let more : length (f.items ++ (x ∷ [])) ≡ i + 1 = length-append f.items (x ∷ []) ∙ (omega arith) in
    record {
      items = f.items ++ (x ∷ []);
      many = more;
      so_far = so_more f.so_far h p (map-append sense f.items (x ∷ []));
      held =
          take_more_set kept i x (omega arith)
          ∙ ap (λ l. l ++ (x ∷ [])) (f.held ∙ take_all room f.items (omega arith))
          ∙ sym (take_all room (f.items ++ (x ∷ [])) (omega arith));
      size = length-set kept i x ∙ size;
    }

-- one more, for which there is no room
pub filled_full : {Y T : Type 0} {each : Part Y Contents} {sense : T → Y} {count at : ℕ} {bs : List ℕ} {room i place : ℕ} {rest : List ℕ} {kept : List T} (x : T) {place' : ℕ} {rest' : List ℕ} → Filled each sense count at bs room i place rest kept → i < count → Past each place rest (sense x) place' rest' → room ≤ i → Filled each sense count at bs room (i + 1) place' rest' kept
filled_full {sense = sense} {room = room} {i = i} {kept = kept} x f h p k =
    let many = f.many in
    let size = f.size in
    record {
      items = f.items ++ (x ∷ []);
      many = length-append f.items (x ∷ []) ∙ (omega arith);
      so_far = so_more f.so_far h p (map-append sense f.items (x ∷ []));
      held =
          take_all (i + 1) kept (omega arith)
          ∙ sym (take_all i kept (omega arith))
          ∙ f.held
          ∙ sym (take-append-le room f.items (x ∷ []) (omega arith));
      size = size;
    }

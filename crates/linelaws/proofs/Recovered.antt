-- Parts and the whole file, recovered from bytes that were read: the bytes are those that are written.
use Rattle.std.proofs.Common.{◌≡◌, ℕ, zero, suc, ◌^◌, ◌<◌, ◌≤◌, Bool, true, false, cond, eqb, leb, List, [], ◌∷◌, ◌++◌, length, Ok, Err, Result, sym, refl, ap, ◌∙◌, subst, append_assoc, arith}
use Rattle.std.specs.List.{flat_map, AllByRecursion}
use Rattle.std.proofs.lemmas.List.{append-nil}
use Rattle.std.proofs.lemmas.Bool.{cond-true, cond-false, eqb-true, leb-true}
use Rattle.bits.specs.Bits.{Bytes}
use Rattle.bits.specs.Bytes.{bytes_of}
use Rattle.linefile.specs.declared.faults.Flaw.{Flaw}
use Rattle.linefile.specs.declared.faults.Flaw.TheVariants.{Unknown, OutOfLimits, Trailing}
use Rattle.linefile.specs.declared.key.Kind.{Kind}
use Rattle.linefile.specs.Layout.{Layout, Part, Good, ends, repeated}
use Rattle.linefile.specs.File.{Contents, any, just, up_to, among_kinds, kinds, a_kind, an_allowance, kind_number, key_count, most_pads, most_frames, number_field, key_record, pad_word, sent_frame, key_section, pads_section, frames_section, line_file, decode}
use Rattle.linefile.specs.Encoded.{encode_key, encode_frame, encode}
use Rattle.linelaws.specs.Laws.{FitKey, FitWord, FitFrame, WellFormed, NothingElse}
use Rattle.linelaws.proofs.Parts.{taken_number, taken_bytes, bad_good}

-- ---- which number a value tells

-- a number that is taken if a test says so
passed : (t : Bool) (n v : ℕ) (flaw : Flaw) → cond t (Ok n) (Err flaw) ≡ Ok v → (t ≡ true) × (v ≡ n)
passed true n v flaw e = (refl, cc)
passed false n v flaw e = let z : ◌≡◌ {A = ℕ} 0 1 = cc in absurd (omega arith)

any-back : (n v : ℕ) → any n ≡ Ok v → v ≡ n
any-back n v e = cc

just-back : (only n v : ℕ) → just only n ≡ Ok v → v ≡ n
just-back only n v e = (passed (eqb n only) n v OutOfLimits e).1

up_to-back : (most n v : ℕ) → up_to most n ≡ Ok v → v ≡ n
up_to-back most n v e = (passed (leb n most) n v OutOfLimits e).1

allowance_back : (n v : ℕ) → an_allowance n ≡ Ok v → v ≡ n
allowance_back n v e = (passed (leb n 1) n v Unknown e).1

among_back : (ks : List Kind) (n : ℕ) (k : Kind) → among_kinds ks n ≡ Ok k → kind_number k ≡ n
among_back [] n k e = let z : ◌≡◌ {A = ℕ} 0 1 = cc in absurd (omega arith)
among_back (j ∷ ks) n k e = go (eqb n (kind_number j)) refl (λ h. among_back ks n k h)
  where
    go : (t : Bool) → eqb n (kind_number j) ≡ t → (among_kinds ks n ≡ Ok k → kind_number k ≡ n) → kind_number k ≡ n
    go true p later =
        let same : ◌≡◌ {A = Result Kind Flaw} (Ok j) (Ok k) = sym (cond-true _ _ _ p) ∙ e in
        let it : j ≡ k = cc in
        ap kind_number (sym it) ∙ sym (eqb-true n (kind_number j) p)
    go false p later = later (sym (cond-false _ _ _ p) ∙ e)

kind_back : (n : ℕ) (k : Kind) → a_kind n ≡ Ok k → kind_number k ≡ n
kind_back n k e = among_back kinds n k e

-- ---- a part that was read

-- The part's bytes are those that are written of an item that fits, and what is behind it goes on.
pub record Found {Y : Type 0} (written : Y → List ℕ) (Fit : Y → Type 0) (next : Y → Layout Contents) (bs : List ℕ) (x : Contents) : Type 0 where
  pub item : Y
  pub rest : List ℕ
  pub place : ℕ
  pub joins : bs ≡ written item ++ rest
  pub fits : Fit item
  pub goes : next item place rest ≡ Good x
  pub rest_bytes : Bytes rest

abbrev pub Finds : {Y : Type 0} (part : Part Y Contents) (written : Y → List ℕ) (Fit : Y → Type 0) → Type 0
Finds {Y = Y} part written Fit = (next : Y → Layout Contents) (at : ℕ) (bs : List ℕ) (x : Contents) → Bytes bs → part next at bs ≡ Good x → Found written Fit next bs x

pub finds_key : Finds key_record encode_key FitKey
unfolding key_record encode_key
finds_key next at bs x u e =
    let a = taken_number 1 a_kind kind_number _ kind_back at bs x u e in
    let b = taken_number 1 any (λ n. n) _ any-back a.place a.rest x a.rest_bytes a.goes in
    let c = taken_number 8 any (λ n. n) _ any-back b.place b.rest x b.rest_bytes b.goes in
    let d = taken_number 8 any (λ n. n) _ any-back c.place c.rest x c.rest_bytes c.goes in
    let f = taken_number 4 any (λ n. n) _ any-back d.place d.rest x d.rest_bytes d.goes in
    let g = taken_number 1 an_allowance (λ n. n) _ allowance_back f.place f.rest x f.rest_bytes f.goes in
    record {
      item = record { kind = a.is; degree = b.is; coefficients = c.is; state = d.is; door = f.is; allowance = g.is };
      rest = g.rest;
      place = g.place;
      joins =
          join bs (bytes_of 1 (kind_number a.is)) (bytes_of 1 b.is) (bytes_of 8 c.is) (bytes_of 8 d.is) (bytes_of 4 f.is) (bytes_of 1 g.is)
          a.rest b.rest c.rest d.rest f.rest g.rest a.joins b.joins c.joins d.joins f.joins g.joins;
      fits = record {
        degree_fits = b.fits;
        coefficients_fit = c.fits;
        state_fits = d.fits;
        door_fits = f.fits;
        allowance_known = leb-true g.is 1 (passed (leb g.is 1) g.is g.is Unknown g.valued_as).0;
      };
      goes = g.goes;
      rest_bytes = g.rest_bytes;
    }
  where
    join : (bs a b c d e f b' c' d' e' f' r : List ℕ) → bs ≡ a ++ b' → b' ≡ b ++ c' → c' ≡ c ++ d' → d' ≡ d ++ e' → e' ≡ e ++ f' → f' ≡ f ++ r → bs ≡ (a ++ (b ++ (c ++ (d ++ (e ++ f))))) ++ r
    join bs a b c d e f b' c' d' e' f' r p q s t u v =
        p ∙ ap (λ z. a ++ z) (q ∙ ap (λ z. b ++ z) (s ∙ ap (λ z. c ++ z) (t ∙ ap (λ z. d ++ z) (u ∙ ap (λ z. e ++ z) v)))) ∙ simp append_assoc

pub finds_word : Finds pad_word (bytes_of 8) FitWord
unfolding pad_word
finds_word next at bs x u e =
    let a = taken_number 8 any (λ n. n) next any-back at bs x u e in
    record { item = a.is; rest = a.rest; place = a.place; joins = a.joins; fits = a.fits; goes = a.goes; rest_bytes = a.rest_bytes }

pub finds_frame : Finds sent_frame encode_frame FitFrame
unfolding sent_frame encode_frame
finds_frame next at bs x u e =
    let a = taken_number 4 any (λ n. n) _ any-back at bs x u e in
    let b = taken_number 1 any (λ n. n) _ any-back a.place a.rest x a.rest_bytes a.goes in
    let c = taken_bytes b.is _ b.place b.rest x b.rest_bytes b.goes in
    record {
      item = record { slot = a.is; bytes = c.is };
      rest = c.rest;
      place = c.place;
      joins = join bs (bytes_of 4 a.is) (bytes_of 1 (length c.is)) c.is a.rest b.rest c.rest a.joins (b.joins ∙ ap (λ n. bytes_of 1 n ++ b.rest) (sym c.sized)) c.joins;
      fits = record { slot_fits = a.fits; length_fits = subst (λ n. n < 2 ^ 8) (sym c.sized) b.fits; in_bytes = c.in_bytes };
      goes = c.goes;
      rest_bytes = c.rest_bytes;
    }
  where
    join : (bs a b c b' c' r : List ℕ) → bs ≡ a ++ b' → b' ≡ b ++ c' → c' ≡ c ++ r → bs ≡ (a ++ (b ++ c)) ++ r
    join bs a b c b' c' r p q s = p ∙ ap (λ z. a ++ z) (q ∙ ap (λ z. b ++ z) s) ∙ simp append_assoc

-- ---- a section behind its count

finds_repeated : {Y : Type 0} (each : Part Y Contents) (written : Y → List ℕ) (Fit : Y → Type 0) → Finds each written Fit → (n : ℕ) → Finds (repeated each n) (flat_map written) (λ ys. (length ys ≡ n) × AllByRecursion Fit ys)
unfolding repeated
finds_repeated each written Fit w zero next at bs x u e = record { item = []; rest = bs; place = at; joins = refl; fits = (refl, tt); goes = e; rest_bytes = u }
finds_repeated each written Fit w (suc n) next at bs x u e =
    let a = w (λ y. repeated each n (λ ys. next (y ∷ ys))) at bs x u e in
    let l = finds_repeated each written Fit w n (λ ys. next (a.item ∷ ys)) a.place a.rest x a.rest_bytes a.goes in
    record {
      item = a.item ∷ l.item;
      rest = l.rest;
      place = l.place;
      joins = a.joins ∙ ap (λ z. written a.item ++ z) l.joins ∙ sym (append_assoc (written a.item) (flat_map written l.item) l.rest);
      fits = (ap suc l.fits.0, (a.fits, l.fits.1));
      goes = l.goes;
      rest_bytes = l.rest_bytes;
    }

-- a count, and so many of a part
abbrev counted : {Y : Type 0} → (Y → List ℕ) → List Y → List ℕ
counted written ys = bytes_of 2 (length ys) ++ flat_map written ys

finds_counted : {Y : Type 0} (most : ℕ) (each : Part Y Contents) (written : Y → List ℕ) (Fit : Y → Type 0) → Finds each written Fit → Finds (λ next. number_field 2 (up_to most) (λ count. repeated each count next)) (counted written) (λ ys. (length ys ≤ most) × AllByRecursion Fit ys)
finds_counted most each written Fit w next at bs x u e =
    let n = taken_number 2 (up_to most) (λ k. k) (λ count. repeated each count next) (up_to-back most) at bs x u e in
    let l = finds_repeated each written Fit w n.is next n.place n.rest x n.rest_bytes n.goes in
    let most-is : n.is ≤ most = leb-true n.is most (passed (leb n.is most) n.is n.is OutOfLimits n.valued_as).0 in
    record {
      item = l.item;
      rest = l.rest;
      place = l.place;
      joins =
          n.joins
          ∙ ap (λ k. bytes_of 2 k ++ n.rest) (sym l.fits.0)
          ∙ ap (λ z. bytes_of 2 (length l.item) ++ z) l.joins
          ∙ sym (append_assoc (bytes_of 2 (length l.item)) (flat_map written l.item) l.rest);
      fits = (subst (λ k. k ≤ most) (sym l.fits.0) most-is, l.fits.1);
      goes = l.goes;
      rest_bytes = l.rest_bytes;
    }

-- ---- the file

at-end : (y : Contents) (at : ℕ) (bs : List ℕ) (x : Contents) → ends y at bs ≡ Good x → (bs ≡ []) × (y ≡ x)
unfolding ends
at-end y at [] x e = (refl, cc)
at-end y at (b ∷ bs) x e = absurd (bad_good Trailing at x e)

join_file : (bs o k p f r1 r2 r3 r4 : List ℕ) → bs ≡ o ++ r1 → r1 ≡ k ++ r2 → r2 ≡ p ++ r3 → r3 ≡ f ++ r4 → r4 ≡ [] → bs ≡ o ++ (k ++ (p ++ f))
join_file bs o k p f r1 r2 r3 r4 a b c d e = a ∙ ap (λ z. o ++ z) (b ∙ ap (λ z. k ++ z) (c ∙ ap (λ z. p ++ z) (d ∙ ap (λ z. f ++ z) e ∙ append-nil f)))

pub nothing_else : NothingElse
unfolding decode line_file key_section pads_section frames_section encode
nothing_else bs x u e =
    let o = taken_number 1 (just key_count) (λ n. n) _ (just-back key_count) 0 bs x u e in
    let k = finds_key _ o.place o.rest x o.rest_bytes o.goes in
    let p = finds_counted most_pads pad_word (bytes_of 8) FitWord finds_word _ k.place k.rest x k.rest_bytes k.goes in
    let f = finds_counted most_frames sent_frame encode_frame FitFrame finds_frame _ p.place p.rest x p.rest_bytes p.goes in
    let z = at-end _ f.place f.rest x f.goes in
    let one : o.is ≡ key_count = eqb-true o.is key_count (passed (eqb o.is key_count) o.is o.is OutOfLimits o.valued_as).0 in
    let made : Contents = record { key = k.item; words = p.item; frames = f.item } in
    let whole : bs ≡ bytes_of 1 key_count ++ (encode_key k.item ++ (counted (bytes_of 8) p.item ++ counted encode_frame f.item)) =
    join_file bs (bytes_of 1 key_count) (encode_key k.item) (counted (bytes_of 8) p.item) (counted encode_frame f.item) o.rest k.rest p.rest f.rest
    (o.joins ∙ ap (λ n. bytes_of 1 n ++ o.rest) one) k.joins p.joins f.joins z.0 in
    let same : bs ≡ encode made = whole ∙ ap (λ t. bytes_of 1 key_count ++ (encode_key k.item ++ t)) (append_assoc (bytes_of 2 (length p.item)) (flat_map (bytes_of 8) p.item) (counted encode_frame f.item)) in
    let fit : WellFormed made = record { key_fits = k.fits; words_count = p.fits.0; words_fit = p.fits.1; frames_count = f.fits.0; frames_fit = f.fits.1 } in
    subst (λ y. (bs ≡ encode y) × WellFormed y) z.1 (same, fit)

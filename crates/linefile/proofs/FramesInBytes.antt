-- Frames where they stand in the bytes: what is read of them is what a list of them says.
use Rattle.std.proofs.Common.{◌≡◌, ℕ, zero, suc, ◌+◌, ◌-◌, ◌*◌, ◌<◌, ◌≤◌, min, List, [], ◌∷◌, length, get_or, take, drop, false, sym, refl, ap, ◌∙◌, inl, inr, arith, length-drop}
use Rattle.std.specs.Int.Digits.{number_from_digits}
use Rattle.std.proofs.lemmas.List.{drop-drop, drop_all, get_or-drop, take_all, take_rest}
use Rattle.std.proofs.lemmas.Bool.{cases_lt, cond-true, cond-false, lt-ltb, le-ltb}
use Rattle.linefile.specs.declared.faults.Flaw.{Flaw}
use Rattle.linefile.specs.declared.faults.Flaw.TheVariants.{CutShort}
use Rattle.linefile.specs.declared.key.KeyFamily.TheVariants.{Crc}
use Rattle.linefile.specs.declared.key.KeyRecord.{KeyRecord}
use Rattle.linefile.specs.Layout.{Layout, Good, Bad, repeated}
use Rattle.linefile.specs.File.{SentFrame, Contents, sent_frame}
use Rattle.linefile.specs.Parsed.{Taken, Past, Faulty, size_in, frame_in, behind_in, frames_in}
use Rattle.linefile.proofs.OneFrame.{frame_past, frame-cut_slot, frame-cut_size, frame-cut_bytes}
use Rattle.linefile.proofs.Bytes.{be1, be4}

-- ---- lists of frames

pub no_frames : (bs : List ℕ) → frames_in 0 bs ≡ []
unfolding frames_in
no_frames bs = refl

pub frames_short : (n : ℕ) (bs : List ℕ) → length bs < 5 → frames_in n bs ≡ []
unfolding frames_in
frames_short zero bs h = refl
frames_short (suc n) bs h = cond-true _ _ _ (lt-ltb (length bs) 5 h)

pub frames_first : (n : ℕ) (bs : List ℕ) → 5 ≤ length bs → frames_in (suc n) bs ≡ frame_in bs ∷ frames_in n (behind_in bs)
unfolding frames_in
frames_first n bs h = cond-false _ _ _ (le-ltb (length bs) 5 h)

-- a list has no more frames than its count says
pub frames_few : (n : ℕ) (bs : List ℕ) → length (frames_in n bs) ≤ n
frames_few zero bs = let l = ap length (no_frames bs) in omega arith
frames_few (suc n) bs =
    elim (cases_lt (length bs) 5) [
      | inl h ↦ let l = ap length (frames_short (suc n) bs h) in omega arith
      | inr h ↦ let l = ap length (frames_first n bs h) in let f = frames_few n (behind_in bs) in omega arith
    ]

-- ---- the first frame is there, or the first fault lies in it

taken : (size at : ℕ) (bs : List ℕ) → size ≤ length bs → Taken size at bs (take size bs) (at + size) (drop size bs)
taken size at bs h = record { there = h; value = refl; place_is = refl; rest_is = refl }

taken_size : (at : ℕ) (bs : List ℕ) → 5 ≤ length bs → Taken 1 (at + 4) (drop 4 bs) (take 1 (drop 4 bs)) (at + 4 + 1) (drop 5 bs)
taken_size at bs h =
    record { there = let l = length-drop 4 bs in omega arith; value = refl; place_is = refl; rest_is = sym (drop-drop 1 4 bs) }

frame_there : (at : ℕ) (bs : List ℕ) → 5 ≤ length bs → size_in bs ≤ length (drop 5 bs) → Past sent_frame at bs (frame_in bs) (at + 4 + 1 + size_in bs) (behind_in bs)
frame_there at bs h k = frame_past (taken 4 at bs (omega arith)) refl (taken_size at bs h) refl (taken (size_in bs) (at + 4 + 1) (drop 5 bs) k)

bad_good : (flaw : Flaw) (at : ℕ) (x : Contents) → Bad flaw at ≡ Good x → ⊥
bad_good flaw at x e = let z : ◌≡◌ {A = ℕ} 0 1 = cc in omega arith

good_same : (x y : Contents) → Good x ≡ Good y → x ≡ y
good_same x y e = cc

-- ---- what is read of bytes are the frames that they hold

found : (n at : ℕ) (bs : List ℕ) (c : List SentFrame → Contents) (x : Contents) → repeated sent_frame n (λ ys p r. Good (c ys)) at bs ≡ Good x → c (frames_in n bs) ≡ x
unfolding repeated
found zero at bs c x e = ap c (no_frames bs) ∙ good_same _ _ e
found (suc n) at bs c x e =
    elim (cases_lt (length bs) 4) [
      | inl h ↦ faulty (record { flaw = CutShort; place = at }) (frame-cut_slot (record { ends = h; told = refl }))
      | inr h ↦ elim (cases_lt (length bs) 5) [
        | inl k ↦ faulty (record { flaw = CutShort; place = at + 4 })
            (frame-cut_size (taken 4 at bs h) refl (record { ends = let l = length-drop 4 bs in omega arith; told = refl }))
        | inr k ↦ elim (cases_lt (length (drop 5 bs)) (size_in bs)) [
          | inl m ↦ faulty (record { flaw = CutShort; place = at + 4 + 1 })
              (frame-cut_bytes (taken 4 at bs h) refl (taken_size at bs k) refl (record { ends = m; told = refl }))
          | inr m ↦
              ap c (frames_first n bs k)
              ∙ found n _ (behind_in bs) (λ ys. c (frame_in bs ∷ ys)) x (sym ((frame_there at bs k m).goes behind) ∙ e)
        ]
      ]
    ]
  where
    behind : SentFrame → Layout Contents
    behind y = repeated sent_frame n (λ ys p r. Good (c (y ∷ ys)))

    faulty : (f : _) → Faulty sent_frame at bs f → c (frames_in (suc n) bs) ≡ x
    faulty f h = absurd (bad_good f.flaw f.place x (sym (h behind) ∙ e))

-- a key, so that frames are the frames of a file
a_key : KeyRecord
a_key = record { kind = record { family = Crc; parity = false }; degree = 0; coefficients = 0; state = 0; door = 0; allowance = 0 }

pub frames_found : (n at : ℕ) (bs : List ℕ) (ys : List SentFrame) (place : ℕ) (rest : List ℕ) → Past (repeated sent_frame n) at bs ys place rest → frames_in n bs ≡ ys
frames_found n at bs ys place rest h =
    let of : List SentFrame → Contents = λ fs. record { key = a_key; words = []; frames = fs } in
    ap (λ (x : Contents). x.frames) (found n at bs of (of ys) (h.goes (λ fs p r. Good (of fs))))

-- ---- the first frame of a list, as far as its bytes are there

-- a part that ends at the end of the bytes, if not before
clamped_take : (n m : ℕ) (bs : List ℕ) → m ≡ min n (length bs) → take n bs ≡ take m bs
clamped_take n m bs e =
    elim (cases_lt n (length bs)) [
      | inl h ↦ ap (λ j. take j bs) (let q : n ≡ m = omega arith in q)
      | inr h ↦ take_all n bs h ∙ sym (take_all m bs (omega arith))
    ]

clamped_drop : (n m : ℕ) (bs : List ℕ) → m ≡ min n (length bs) → drop n bs ≡ drop m bs
clamped_drop n m bs e =
    elim (cases_lt n (length bs)) [
      | inl h ↦ ap (λ j. drop j bs) (let q : n ≡ m = omega arith in q)
      | inr h ↦ drop_all n bs h ∙ sym (drop_all m bs (omega arith))
    ]

pub split_frames : (count : ℕ) (bs : List ℕ) (slot m : ℕ) → (count ≡ 0 → ⊥) → 5 ≤ length bs
    → slot ≡ get_or bs 0 0 * 16777216 + get_or bs 1 0 * 65536 + get_or bs 2 0 * 256 + get_or bs 3 0
    → m ≡ min (get_or bs 4 0) (length (take (length bs - 5) (drop 5 bs)))
    → frames_in count bs ≡ record { slot = slot; bytes = take m (take (length bs - 5) (drop 5 bs)) } ∷ frames_in (count - 1) (take (length (take (length bs - 5) (drop 5 bs)) - m) (drop m (take (length bs - 5) (drop 5 bs))))
split_frames count bs slot m some h se me =
    let t : take (length bs - 5) (drop 5 bs) ≡ drop 5 bs = take_rest bs 5 in
    let n : count ≡ suc (count - 1) = omega arith in
    let s : number_from_digits 256 (take 4 bs) ≡ slot = be4 bs (omega arith) ∙ sym se in
    let z : size_in bs ≡ get_or bs 4 0 = be1 (drop 4 bs) (let l = length-drop 4 bs in omega arith) ∙ get_or-drop 4 bs 0 0 in
    let me' : m ≡ min (size_in bs) (length (drop 5 bs)) = me ∙ ap (λ b. min (get_or bs 4 0) (length b)) t ∙ ap (λ j. min j (length (drop 5 bs))) (sym z) in
    ap (λ j. frames_in j bs) n
    ∙ frames_first (count - 1) bs h
    ∙ ap (λ v. record { slot = v; bytes = take (size_in bs) (drop 5 bs) } ∷ frames_in (count - 1) (behind_in bs)) s
    ∙ ap (λ b. record { slot = slot; bytes = b } ∷ frames_in (count - 1) (behind_in bs)) (clamped_take (size_in bs) m (drop 5 bs) me')
    ∙ ap (λ b. record { slot = slot; bytes = take m (drop 5 bs) } ∷ frames_in (count - 1) b) (clamped_drop (size_in bs) m (drop 5 bs) me' ∙ sym (take_rest (drop 5 bs) m))
    ∙ ap (λ b. record { slot = slot; bytes = take m b } ∷ frames_in (count - 1) (take (length b - m) (drop m b))) (sym t)

-- Parts and the whole file, written: they are read back.
use Rattle.std.proofs.Common.{◌≡◌, ℕ, ◌^◌, ◌<◌, ◌≤◌, Bool, true, false, List, [], ◌∷◌, ◌++◌, length, Ok, sym, refl, subst, append_assoc, arith, lit<}
use Rattle.std.specs.List.{flat_map, AllByRecursion}
use Rattle.std.proofs.lemmas.List.{append-nil}
use Rattle.std.proofs.ByRecursion.{All-append}
use Rattle.std.proofs.lemmas.Bool.{cond-true, le-leb}
use Rattle.bits.specs.Bits.{Bytes}
use Rattle.bits.specs.Bytes.{bytes_of}
use Rattle.bits.proofs.BytesOfNumbers.{bytes_of-bytes}
use Rattle.linefile.specs.declared.key.KeyFamily.{KeyFamily}
use Rattle.linefile.specs.declared.key.KeyFamily.TheVariants.{Crc, Toeplitz, MacC}
use Rattle.linefile.specs.declared.key.Kind.{Kind}
use Rattle.linefile.specs.declared.key.KeyRecord.{KeyRecord}
use Rattle.linefile.specs.Layout.{Layout, Part, ends, repeated}
use Rattle.linefile.specs.File.{SentFrame, Contents, any, just, up_to, a_kind, an_allowance, kind_number, key_count, most_pads, most_frames, number_field, key_record, pad_word, sent_frame, key_section, pads_section, frames_section, line_file}
use Rattle.linefile.specs.Encoded.{encode_key, encode_frame, encode}
use Rattle.linelaws.specs.Laws.{FitKey, FitWord, FitFrame, WellFormed, BytesWritten}
use Rattle.linelaws.proofs.Parts.{Reads, reads_number, reads_bytes, reads_end}

-- A part that is written so is read, if what is behind it is.
abbrev pub Writes : {Y : Type 0} (part : Part Y Contents) (written : Y → List ℕ) (Fit : Y → Type 0) → Type 0
Writes {Y = Y} part written Fit = (y : Y) (next : Y → Layout Contents) (rest : List ℕ) (x : Contents) → Fit y → Reads (next y) rest x → Reads (part next) (written y ++ rest) x

-- ---- the key

known_kind : (k : Kind) → a_kind (kind_number k) ≡ Ok k
known_kind k = go k.family k.parity
  where
    go : (f : KeyFamily) (p : Bool) → a_kind (kind_number (record { family = f; parity = p })) ≡ Ok (record { family = f; parity = p })
    go Crc false = refl
    go Toeplitz false = refl
    go MacC false = refl
    go Crc true = refl
    go Toeplitz true = refl
    go MacC true = refl

small_kind : (k : Kind) → kind_number k < 2 ^ 8
small_kind k = go k.family k.parity
  where
    go : (f : KeyFamily) (p : Bool) → kind_number (record { family = f; parity = p }) < 2 ^ 8
    go Crc false = lit< tt
    go Toeplitz false = lit< tt
    go MacC false = lit< tt
    go Crc true = lit< tt
    go Toeplitz true = lit< tt
    go MacC true = lit< tt

pub writes_key : Writes key_record encode_key FitKey
unfolding key_record encode_key
writes_key k next rest x f r =
    let joins : encode_key k ++ rest ≡ bytes_of 1 (kind_number k.kind) ++ (bytes_of 1 k.degree ++ (bytes_of 8 k.coefficients ++ (bytes_of 8 k.state ++ (bytes_of 4 k.door ++ (bytes_of 1 k.allowance ++ rest))))) =
    six (bytes_of 1 (kind_number k.kind)) (bytes_of 1 k.degree) (bytes_of 8 k.coefficients) (bytes_of 8 k.state) (bytes_of 4 k.door) (bytes_of 1 k.allowance) rest in
    subst (λ z. Reads (key_record next) z x) (sym joins)
    (reads_number 1 a_kind _ k.kind (kind_number k.kind) _ x (small_kind k.kind) (known_kind k.kind)
    (reads_number 1 any _ k.degree k.degree _ x f.degree_fits refl
    (reads_number 8 any _ k.coefficients k.coefficients _ x f.coefficients_fit refl
    (reads_number 8 any _ k.state k.state _ x f.state_fits refl
    (reads_number 4 any _ k.door k.door _ x f.door_fits refl
    (reads_number 1 an_allowance _ k.allowance k.allowance rest x (let h = f.allowance_known in omega arith) (cond-true _ _ _ (le-leb k.allowance 1 f.allowance_known)) r))))))
  where
    six : (a b c d e f g : List ℕ) → (a ++ (b ++ (c ++ (d ++ (e ++ f))))) ++ g ≡ a ++ (b ++ (c ++ (d ++ (e ++ (f ++ g)))))
    six a b c d e f g = simp append_assoc

-- ---- pads and frames

pub writes-word : Writes pad_word (bytes_of 8) FitWord
unfolding pad_word
writes-word w next rest x f r = reads_number 8 any next w w rest x f refl r

pub writes-frame : Writes sent_frame encode_frame FitFrame
unfolding sent_frame encode_frame
writes-frame f next rest x h r =
    let joins : encode_frame f ++ rest ≡ bytes_of 4 f.slot ++ (bytes_of 1 (length f.bytes) ++ (f.bytes ++ rest)) = three (bytes_of 4 f.slot) (bytes_of 1 (length f.bytes)) f.bytes rest in
    subst (λ z. Reads (sent_frame next) z x) (sym joins)
    (reads_number 4 any _ f.slot f.slot _ x h.slot_fits refl
    (reads_number 1 any _ (length f.bytes) (length f.bytes) _ x h.length_fits refl
    (reads_bytes (length f.bytes) _ f.bytes rest x refl r)))
  where
    three : (a b c d : List ℕ) → (a ++ (b ++ c)) ++ d ≡ a ++ (b ++ (c ++ d))
    three a b c d = simp append_assoc

-- ---- a section behind its count

-- so many of a part
writes-repeated : {Y : Type 0} (each : Part Y Contents) (written : Y → List ℕ) (Fit : Y → Type 0) → Writes each written Fit → (ys : List Y) (next : List Y → Layout Contents) (rest : List ℕ) (x : Contents) → AllByRecursion Fit ys → Reads (next ys) rest x → Reads (repeated each (length ys) next) (flat_map written ys ++ rest) x
unfolding repeated
writes-repeated each written Fit w [] next rest x f r = r
writes-repeated each written Fit w (y ∷ ys) next rest x f r =
    subst (λ z. Reads (repeated each (length (y ∷ ys)) next) z x) (sym (append_assoc (written y) (flat_map written ys) rest))
    (w y (λ v. repeated each (length ys) (λ vs. next (v ∷ vs))) (flat_map written ys ++ rest) x f.0
    (writes-repeated each written Fit w ys (λ vs. next (y ∷ vs)) rest x f.1 r))

writes-counted : {Y : Type 0} (most : ℕ) (each : Part Y Contents) (written : Y → List ℕ) (Fit : Y → Type 0) → most < 2 ^ 16 → Writes each written Fit → (ys : List Y) (next : List Y → Layout Contents) (rest : List ℕ) (x : Contents) → length ys ≤ most → AllByRecursion Fit ys → Reads (next ys) rest x → Reads (number_field 2 (up_to most) (λ count. repeated each count next)) (bytes_of 2 (length ys) ++ (flat_map written ys ++ rest)) x
writes-counted most each written Fit small w ys next rest x h f r =
    reads_number 2 (up_to most) (λ count. repeated each count next) (length ys) (length ys) (flat_map written ys ++ rest) x (omega arith) (cond-true _ _ _ (le-leb (length ys) most h))
    (writes-repeated each written Fit w ys next rest x f r)

-- ---- the file

pub reads_file : (c : Contents) → WellFormed c → Reads line_file (encode c) c
unfolding line_file key_section pads_section frames_section encode
reads_file c f =
    let frames = flat_map encode_frame c.frames in
    let end : Reads (frames_section (λ frames. ends (record { key = c.key; words = c.words; frames = frames }))) (bytes_of 2 (length c.frames) ++ frames) c =
    subst (λ z. Reads (frames_section (λ frames. ends (record { key = c.key; words = c.words; frames = frames }))) (bytes_of 2 (length c.frames) ++ z) c) (append-nil frames)
    (writes-counted most_frames sent_frame encode_frame FitFrame (lit< tt) writes-frame c.frames _ [] c f.frames_count f.frames_fit (reads_end c)) in
    reads_number 1 (just key_count) _ key_count key_count _ c (lit< tt) refl
    (writes_key c.key _ _ c f.key_fits
    (writes-counted most_pads pad_word (bytes_of 8) FitWord (lit< tt) writes-word c.words _ _ c f.words_count f.words_fit end))

-- ---- it is made of bytes

bytes_joined : {Y : Type 0} (written : Y → List ℕ) (Fit : Y → Type 0) → ((y : Y) → Fit y → Bytes (written y)) → (ys : List Y) → AllByRecursion Fit ys → Bytes (flat_map written ys)
bytes_joined written Fit h [] f = tt
bytes_joined written Fit h (y ∷ ys) f = All-append (λ b. b < 256) (written y) (flat_map written ys) (h y f.0) (bytes_joined written Fit h ys f.1)

six_bytes : (a b c d e f : List ℕ) → Bytes a → Bytes b → Bytes c → Bytes d → Bytes e → Bytes f → Bytes (a ++ (b ++ (c ++ (d ++ (e ++ f)))))
six_bytes a b c d e f ha hb hc hd he hf = both a (b ++ (c ++ (d ++ (e ++ f)))) ha (both b (c ++ (d ++ (e ++ f))) hb (both c (d ++ (e ++ f)) hc (both d (e ++ f) hd (both e f he hf))))
  where
    both : (xs ys : List ℕ) → Bytes xs → Bytes ys → Bytes (xs ++ ys)
    both xs ys hx hy = All-append (λ b. b < 256) xs ys hx hy

bytes_key : (k : KeyRecord) → Bytes (encode_key k)
unfolding encode_key
bytes_key k =
    six_bytes (bytes_of 1 (kind_number k.kind)) (bytes_of 1 k.degree) (bytes_of 8 k.coefficients) (bytes_of 8 k.state) (bytes_of 4 k.door) (bytes_of 1 k.allowance)
    (bytes_of-bytes 1 (kind_number k.kind)) (bytes_of-bytes 1 k.degree) (bytes_of-bytes 8 k.coefficients) (bytes_of-bytes 8 k.state) (bytes_of-bytes 4 k.door) (bytes_of-bytes 1 k.allowance)

bytes_frame : (f : SentFrame) → FitFrame f → Bytes (encode_frame f)
unfolding encode_frame
bytes_frame f h =
    All-append (λ b. b < 256) (bytes_of 4 f.slot) (bytes_of 1 (length f.bytes) ++ f.bytes) (bytes_of-bytes 4 f.slot)
    (All-append (λ b. b < 256) (bytes_of 1 (length f.bytes)) f.bytes (bytes_of-bytes 1 (length f.bytes)) h.in_bytes)

pub bytes_written : BytesWritten
unfolding encode
bytes_written c f =
    six_bytes (bytes_of 1 key_count) (encode_key c.key) (bytes_of 2 (length c.words)) (flat_map (bytes_of 8) c.words) (bytes_of 2 (length c.frames)) (flat_map encode_frame c.frames)
    (bytes_of-bytes 1 key_count) (bytes_key c.key)
    (bytes_of-bytes 2 (length c.words)) (bytes_joined (bytes_of 8) FitWord (λ w h. bytes_of-bytes 8 w) c.words f.words_fit)
    (bytes_of-bytes 2 (length c.frames)) (bytes_joined encode_frame FitFrame bytes_frame c.frames f.frames_fit)

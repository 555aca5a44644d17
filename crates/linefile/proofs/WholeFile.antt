-- The whole file, section by section.
use Rattle.std.proofs.Common.{◌≡◌, ℕ, List, [], ◌∷◌, length, refl, ◌∙◌, arith}
use Rattle.linefile.specs.declared.faults.FileFault.{FileFault}
use Rattle.linefile.specs.declared.faults.Flaw.TheVariants.{Trailing}
use Rattle.linefile.specs.declared.key.KeyRecord.{KeyRecord}
use Rattle.linefile.specs.Layout.{Layout, Good, Bad, ends}
use Rattle.linefile.specs.File.{SentFrame, Contents, counted, most_frames, most_pads, pad_word, sent_frame, key_section, pads_section, frames_section, line_file, decode}
use Rattle.linefile.specs.Parsed.{Past, Faulty}

-- what stands behind each section
abbrev behind_frames : KeyRecord → List ℕ → List SentFrame → Layout Contents
behind_frames key words frames = ends (record { key = key; words = words; frames = frames })

abbrev behind_pads : KeyRecord → List ℕ → Layout Contents
behind_pads key words = counted most_frames sent_frame (λ frames. behind_frames key words frames)

abbrev behind_key : KeyRecord → Layout Contents
behind_key key = counted most_pads pad_word (λ words. behind_pads key words)

at_key : (bs : List ℕ) → decode bs ≡ key_section behind_key 0 bs
unfolding decode line_file pads_section frames_section
at_key bs = refl

at_pads : {bs r1 : List ℕ} {p1 : ℕ} {key : KeyRecord} → Past key_section 0 bs key p1 r1 → decode bs ≡ behind_key key p1 r1
at_pads {bs = bs} a = at_key bs ∙ a.goes behind_key

at_frames : {bs r1 r2 : List ℕ} {p1 p2 : ℕ} {key : KeyRecord} {words : List ℕ} → Past key_section 0 bs key p1 r1 → Past (counted most_pads pad_word) p1 r1 words p2 r2 → decode bs ≡ behind_pads key words p2 r2
at_frames {key = key} a b = at_pads a ∙ b.goes (λ words. behind_pads key words)

at-end : {bs r1 r2 r3 : List ℕ} {p1 p2 p3 : ℕ} {key : KeyRecord} {words : List ℕ} {frames : List SentFrame} → Past key_section 0 bs key p1 r1 → Past (counted most_pads pad_word) p1 r1 words p2 r2 → Past (counted most_frames sent_frame) p2 r2 frames p3 r3 → decode bs ≡ behind_frames key words frames p3 r3
at-end {key = key} {words = words} a b c = at_frames a b ∙ c.goes (λ frames. behind_frames key words frames)

-- ---- the answers of `parse`

pub key-faulty : (bs : List ℕ) (f : FileFault) → Faulty key_section 0 bs f → decode bs ≡ Bad f.flaw f.place
key-faulty bs f h = at_key bs ∙ h behind_key

pub pads-faulty : (bs : List ℕ) {r1 : List ℕ} {p1 : ℕ} {key : KeyRecord} (f : FileFault) → Past key_section 0 bs key p1 r1 → Faulty (counted most_pads pad_word) p1 r1 f → decode bs ≡ Bad f.flaw f.place
pads-faulty bs {key = key} f a h = at_pads a ∙ h (λ words. behind_pads key words)

pub frames_faulty : (bs : List ℕ) {r1 r2 : List ℕ} {p1 p2 : ℕ} {key : KeyRecord} {words : List ℕ} (f : FileFault) → Past key_section 0 bs key p1 r1 → Past (counted most_pads pad_word) p1 r1 words p2 r2 → Faulty (counted most_frames sent_frame) p2 r2 f → decode bs ≡ Bad f.flaw f.place
frames_faulty bs {key = key} {words = words} f a b h = at_frames a b ∙ h (λ frames. behind_frames key words frames)

ends-good : (x : Contents) (p : ℕ) (r : List ℕ) → length r ≡ 0 → ends x p r ≡ Good x
unfolding ends
ends-good x p [] h = refl
ends-good x p (b ∷ r) h = absurd (omega arith)

ends-trailing : (x : Contents) (p : ℕ) (r : List ℕ) → (length r ≡ 0 → ⊥) → ends x p r ≡ Bad Trailing p
unfolding ends
ends-trailing x p [] h = absurd (h refl)
ends-trailing x p (b ∷ r) h = refl

pub trailing : (bs : List ℕ) {r1 r2 r3 : List ℕ} {p1 p2 p3 : ℕ} {key : KeyRecord} {words : List ℕ} {frames : List SentFrame} → Past key_section 0 bs key p1 r1 → Past (counted most_pads pad_word) p1 r1 words p2 r2 → Past (counted most_frames sent_frame) p2 r2 frames p3 r3 → (length r3 ≡ 0 → ⊥) → decode bs ≡ Bad Trailing p3
trailing bs a b c h = at-end a b c ∙ ends-trailing _ _ _ h

pub finished : (bs : List ℕ) {r1 r2 r3 : List ℕ} {p1 p2 p3 : ℕ} {key : KeyRecord} {words : List ℕ} {frames : List SentFrame} → Past key_section 0 bs key p1 r1 → Past (counted most_pads pad_word) p1 r1 words p2 r2 → Past (counted most_frames sent_frame) p2 r2 frames p3 r3 → length r3 ≡ 0 → decode bs ≡ Good (record { key = key; words = words; frames = frames })
finished bs a b c h = at-end a b c ∙ ends-good _ _ _ h

-- A frame: its slot, its length, its bytes.
use Rattle.std.proofs.Common.{◌≡◌, ℕ, List, refl, ◌∙◌}
use Rattle.std.specs.Int.Digits.{number_from_digits}
use Rattle.linefile.specs.declared.faults.FileFault.{FileFault}
use Rattle.linefile.specs.Layout.{Layout}
use Rattle.linefile.specs.File.{SentFrame, Contents, any, number_field, bytes_field, sent_frame}
use Rattle.linefile.specs.Parsed.{Taken, Cut, Past, Faulty}
use Rattle.linefile.proofs.Stages.{value_past, value_cut, bytes_past, bytes_cut}

-- what stands behind the slot, behind the length, and behind the bytes
abbrev behind_bytes : (next : SentFrame → Layout Contents) → ℕ → List ℕ → Layout Contents
behind_bytes next slot bytes = next (record { slot = slot; bytes = bytes })

abbrev behind_size : (next : SentFrame → Layout Contents) → ℕ → ℕ → Layout Contents
behind_size next slot size = bytes_field size (behind_bytes next slot)

abbrev behind_slot : (next : SentFrame → Layout Contents) → ℕ → Layout Contents
behind_slot next slot = number_field 1 any (behind_size next slot)

pub frame-cut_slot : {at : ℕ} {bs : List ℕ} {f : FileFault} → Cut 4 at bs f → Faulty sent_frame at bs f
unfolding sent_frame
frame-cut_slot c = λ next. value_cut any c (behind_slot next)

pub frame-cut_size : {at : ℕ} {bs a : List ℕ} {p1 : ℕ} {r1 : List ℕ} {slot : ℕ} {f : FileFault} → Taken 4 at bs a p1 r1 → slot ≡ number_from_digits 256 a → Cut 1 p1 r1 f → Faulty sent_frame at bs f
unfolding sent_frame
frame-cut_size t e c = λ next. (value_past any t e refl).goes (behind_slot next) ∙ value_cut any c (behind_size next _)

pub frame-cut_bytes : {at : ℕ} {bs a : List ℕ} {p1 : ℕ} {r1 b : List ℕ} {p2 : ℕ} {r2 : List ℕ} {slot size : ℕ} {f : FileFault} → Taken 4 at bs a p1 r1 → slot ≡ number_from_digits 256 a → Taken 1 p1 r1 b p2 r2 → size ≡ number_from_digits 256 b → Cut size p2 r2 f → Faulty sent_frame at bs f
unfolding sent_frame
frame-cut_bytes t e u g c =
    λ next. (value_past any t e refl).goes (behind_slot next) ∙ (value_past any u g refl).goes (behind_size next _) ∙ bytes_cut c (behind_bytes next _)

pub frame_past : {at : ℕ} {bs a : List ℕ} {p1 : ℕ} {r1 b : List ℕ} {p2 : ℕ} {r2 bytes : List ℕ} {p3 : ℕ} {r3 : List ℕ} {slot size : ℕ} → Taken 4 at bs a p1 r1 → slot ≡ number_from_digits 256 a → Taken 1 p1 r1 b p2 r2 → size ≡ number_from_digits 256 b → Taken size p2 r2 bytes p3 r3 → Past sent_frame at bs (record { slot = slot; bytes = bytes }) p3 r3
unfolding sent_frame
frame_past {slot = slot} t e u g v =
    record {
      goes = λ next.
          (value_past any t e refl).goes (behind_slot next) ∙ (value_past any u g refl).goes (behind_size next slot) ∙ (bytes_past v).goes (behind_bytes next slot);
    }

-- The frame that is written.
use Rattle.std.proofs.Common.{◌≡◌, ℕ, ◌+◌, ◌*◌, ◌^◌, List, ◌++◌, length, Some, Option, sym, ap, ◌∙◌}
use Rattle.bits.specs.Bytes.{bytes_of}
use Rattle.family.specs.Meaning.{Meaning}
use Rattle.frames.specs.Frames.{tag_size, spare, text_size, pad_of, tag_of}
use Rattle.frames.proofs.Parts.{length_frame}
use Rattle.account.specs.Calls.{word}
use Rattle.account.specs.Sealing.{frame_under}
use Rattle.framing.specs.Asked.{put_in_front}

module _ (k : Meaning) (door slot : ℕ) (p : List ℕ) (o : Option ℕ) where
  pub frame_length : (width size : ℕ) → width ≡ k.width → size ≡ tag_size width → length p + size ≡ length (frame_under k (word o) door slot p)
  unfolding frame_under
  frame_length width size ew es =
      ap (λ (n : ℕ). length p + n) (es ∙ ap tag_size ew)
      ∙ sym (length_frame k.width (pad_of k.width (word o)) door slot (k.columns (text_size (length p))) p)

  pub frame_written : (out out' : List ℕ) (width tag w : ℕ) → width ≡ k.width → o ≡ Some w
      → tag ≡ tag_of (k.columns (text_size (length p))) (pad_of k.width w) door slot p
      → out' ≡ put_in_front (p ++ bytes_of (tag_size width) (tag * 2 ^ spare width)) out
      → out' ≡ put_in_front (frame_under k (word o) door slot p) out
  unfolding frame_under
  frame_written out out' width tag w ew eo et wrote = rw eo (rw (ew, et) at wrote)

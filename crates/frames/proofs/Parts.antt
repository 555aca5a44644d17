-- The parts of a frame: of one that arrives, by its length, and of one that was sealed.
use Rattle.std.proofs.Common.{◌≡◌, ℕ, ◌+◌, ◌*◌, ◌^◌, ◌≤◌, Bool, List, ◌++◌, length, take, drop, ap, ◌∙◌, ap₂, arith, length-append, length-drop, length-take, length-take-le, take_at, drop_at}
use Rattle.std.proofs.lemmas.Nat.{shl-shr}
use Rattle.bits.specs.Bits.{bits_of, bits, weight}
use Rattle.bits.specs.Bytes.{bytes_of}
use Rattle.bits.proofs.Runs.{length-bits_of, length-bits, bits_of-add}
use Rattle.bits.proofs.BytesOfNumbers.{length-bytes_of, bits-bytes_of}
use Rattle.bits.proofs.Weights.{weight-shifted}
use Rattle.frames.specs.Frames.{bound_word, tag_size, spare, tag_of, frame_of, payload_size, payload_of, tag_bits, spare_bits, places}

pub length-bound_word : (door slot : ℕ) → length (bound_word door slot) ≡ 64
unfolding bound_word
length-bound_word door slot =
    length-append (bits_of 32 door) (bits_of 32 slot) ∙ ap₂ (λ (x y : ℕ). x + y) (length-bits_of 32 door) (length-bits_of 32 slot)

-- the bytes of a tag hold its n bits and the spare ones
pub tag_room : (n : ℕ) → (8 * tag_size n ≡ n + spare n) × (n ≤ 8 * tag_size n)
unfolding tag_size
tag_room n = (omega arith, omega arith)

-- ---- a frame with a payload of L bytes
module _ (n L : ℕ) (frame : List ℕ) (size : length frame ≡ L + tag_size n) where
  pub payload_size_is : payload_size n frame ≡ L
  payload_size_is = omega arith

  pub length_payload : length (payload_of n frame) ≡ L
  length_payload = length-take (payload_size n frame) frame ∙ omega arith

  pub length_tag_bits : length (tag_bits n frame) ≡ n
  length_tag_bits =
      length-take-le n (bits (drop (payload_size n frame) frame))
      (omega (arith, length-bits (drop (payload_size n frame) frame), length-drop (payload_size n frame) frame, tag_room n))

  pub length_places : length (places n frame) ≡ 8 * L + n
  length_places =
      length-append (bits (payload_of n frame)) (tag_bits n frame)
      ∙ omega (arith, length-bits (payload_of n frame), length_payload, length_tag_bits)

-- ---- a frame that was sealed
module _ (n pad door slot : ℕ) (cs payload : List ℕ) where
  tag : ℕ
  tag = tag_of cs pad door slot payload

  tag_bytes : List ℕ
  tag_bytes = bytes_of (tag_size n) (tag_of cs pad door slot payload * 2 ^ spare n)

  abbrev sent : List ℕ
  sent = frame_of n cs pad door slot payload

  pub length_frame : length sent ≡ length payload + tag_size n
  unfolding tag_bytes
  length_frame =
      length-append payload tag_bytes
      ∙ ap (λ (k : ℕ). length payload + k) (length-bytes_of (tag_size n) (tag_of cs pad door slot payload * 2 ^ spare n))

  frame-size : length payload ≡ payload_size n sent
  frame-size = omega (arith, length_frame)

  pub frame_payload : payload_of n sent ≡ payload
  unfolding tag_bytes
  frame_payload = take_at payload tag_bytes (payload_size n sent) frame-size

  frame-rest : bits (drop (payload_size n sent) sent) ≡ bits_of n tag ++ bits_of (spare n) (tag * 2 ^ spare n)
  unfolding tag tag_bytes
  frame-rest =
      ap bits (drop_at payload tag_bytes (payload_size n sent) frame-size)
      ∙ bits-bytes_of (tag_size n) (tag * 2 ^ spare n)
      ∙ ap (λ (k : ℕ). bits_of k (tag * 2 ^ spare n)) (tag_room n).0
      ∙ bits_of-add n (spare n) (tag * 2 ^ spare n)
      ∙ ap (λ (x : ℕ). bits_of n x ++ bits_of (spare n) (tag * 2 ^ spare n)) (shl-shr tag (spare n))

  pub frame_tag : tag_bits n sent ≡ bits_of n (tag_of cs pad door slot payload)
  unfolding tag
  frame_tag = ap (take n) frame-rest ∙ take_at (bits_of n tag) _ n (length-bits_of n tag)

  pub frame_spare : weight (spare_bits n sent) ≡ 0
  unfolding tag
  frame_spare =
      ap (λ (r : List Bool). weight (drop n r)) frame-rest
      ∙ ap weight (drop_at (bits_of n tag) _ n (length-bits_of n tag))
      ∙ weight-shifted (spare n) tag

-- Texts and tags, as they are put into buffers.
use Rattle.std.proofs.Common.{◌≡◌, ℕ, ◌+◌, ◌-◌, ◌*◌, ◌/◌, ◌%◌, ◌^◌, ◌<◌, ◌≤◌, Bool, List, [], ◌∷◌, ◌++◌, length, take, drop, sym, ap, ◌∙◌, subst, ap₂, append_assoc, div-one, arith}
use lib.Bits.{bit_xor, xor_lt}
use borrow.Rule.Slice.PartMut.{post_of}
use Rattle.std.proofs.lemmas.Nat.{shr_below}
use Rattle.bits.specs.Bits.{bits}
use Rattle.bits.specs.Bytes.{bytes_of}
use Rattle.bits.specs.Columns.{picked}
use Rattle.bits.proofs.BytesOfNumbers.{length-bytes_of}
use Rattle.bits.proofs.Picks.{picked-lt}
use Rattle.bits.proofs.Runs.{bits-append}
use Rattle.family.specs.Meaning.{Meaning, Lawful, digest_of}
use Rattle.frames.specs.Frames.{tag_size, spare, text_size, text_of, tag_of, pad_of}
use Rattle.frames.proofs.Shifts.{bound_word-bytes, pads_are_pads}
use Rattle.pads.specs.Pad.{pad}
use Rattle.framing.specs.Asked.{put_in_front}
use Rattle.framing.proofs.Numbers.{tag_in_front}

-- numbers as `to_be_bytes` writes them
pub four_bytes : (v : ℕ) → v / 16777216 % 256 ∷ v / 65536 % 256 ∷ v / 256 % 256 ∷ v % 256 ∷ [] ≡ bytes_of 4 v
four_bytes v = ap (λ (x : ℕ). v / 16777216 % 256 ∷ v / 65536 % 256 ∷ v / 256 % 256 ∷ x % 256 ∷ []) (sym (div-one v))

pub eight_bytes : (v : ℕ)
    → v / 72057594037927936 % 256 ∷ v / 281474976710656 % 256 ∷ v / 1099511627776 % 256 ∷ v / 4294967296 % 256 ∷ v / 16777216 % 256
    ∷ v / 65536 % 256 ∷ v / 256 % 256 ∷ v % 256 ∷ []
    ≡ bytes_of 8 v
eight_bytes v =
    ap
    (λ (x : ℕ). v / 72057594037927936 % 256 ∷ v / 281474976710656 % 256 ∷ v / 1099511627776 % 256 ∷ v / 4294967296 % 256
    ∷ v / 16777216 % 256 ∷ v / 65536 % 256 ∷ v / 256 % 256 ∷ x % 256 ∷ [])
    (sym (div-one v))

-- the bits of a text
pub text-bits : (door slot : ℕ) (payload : List ℕ) → bits (bytes_of 4 door ++ (bytes_of 4 slot ++ payload)) ≡ text_of door slot payload
text-bits door slot payload =
    ap bits (sym (append_assoc (bytes_of 4 door) (bytes_of 4 slot) payload))
    ∙ bits-append (bytes_of 4 door ++ bytes_of 4 slot) payload
    ∙ ap (λ (b : List Bool). b ++ bits payload) (bound_word-bytes door slot)

pub pad_below : (n word : ℕ) → n ≤ 64 → word < 2 ^ 64 → pad n word < 2 ^ n
pad_below n word small fits =
    let all : ◌≡◌ {A = ℕ} 64 (n + (64 - n)) = omega arith in shr_below word n (64 - n) (subst (λ (k : ℕ). word < 2 ^ k) all fits)

-- a tag fits its width
pub tag_below : (k : Meaning) → Lawful k → (width m digest word hidden : ℕ) (text : List ℕ) → width ≡ k.width → 1 ≤ m → m ≤ k.reach
    → digest ≡ digest_of k m text → word < 2 ^ 64 → hidden ≡ pad width word → bit_xor digest hidden < 2 ^ width
tag_below k l width m digest word hidden text ew low high ed fits eh =
    let short : digest < 2 ^ width = rw (ed, ew) (picked-lt k.width (bits text) (k.columns m) (l.below m low high)) in
    let small : width ≤ 64 = rw ew l.narrow in
    xor_lt width digest hidden short (rw eh (pad_below width word small fits))

-- and is the digest of the text, ⊕ the pad
pub tag_made : (k : Meaning) → Lawful k → (door slot : ℕ) (payload text : List ℕ) (width digest word hidden : ℕ) → width ≡ k.width
    → text ≡ bytes_of 4 door ++ (bytes_of 4 slot ++ payload) → digest ≡ digest_of k (text_size (length payload)) text
    → word < 2 ^ 64 → hidden ≡ pad width word
    → bit_xor digest hidden ≡ tag_of (k.columns (text_size (length payload))) (pad_of k.width word) door slot payload
tag_made k l door slot payload text width digest word hidden ew et ed fits eh =
    ap₂ bit_xor
    (ed ∙ ap (λ (t : List ℕ). digest_of k (text_size (length payload)) t) et
    ∙ ap (λ (b : List Bool). picked b (k.columns (text_size (length payload)))) (text-bits door slot payload))
    (eh ∙ ap (λ (n : ℕ). pad n word) ew ∙ sym (pads_are_pads k.width word l.narrow fits))

-- the bytes of a tag, cut from its word
pub tag_put : (width tag size shifted : ℕ) (X out : List ℕ) → width ≤ 64 → size ≡ tag_size width → shifted ≡ tag * 2 ^ (64 - width)
    → X ≡ take size (bytes_of 8 shifted)
    → X ++ post_of 0 size out ≡ put_in_front (bytes_of (tag_size width) (tag * 2 ^ spare width)) out
tag_put width tag size shifted X out small es eh ex =
    let tb = bytes_of (tag_size width) (tag * 2 ^ spare width) in
    ap₂ (λ (x : List ℕ) (n : ℕ). x ++ drop n out)
    (ex ∙ ap₂ (λ (n v : ℕ). take n (bytes_of 8 v)) es eh ∙ tag_in_front width tag small)
    (es ∙ sym (length-bytes_of (tag_size width) (tag * 2 ^ spare width)))

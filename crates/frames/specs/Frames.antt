-- A frame of a key: how it is made, and what an arriving frame shows. Of the key only two things count: its width n, and
-- the columns `cs` that it has for the frame's text.
use Rattle.std.specs.Prelude.{ℕ, ◌+◌, ◌-◌, ◌*◌, ◌/◌, ◌%◌, ◌^◌, Bool, List, ◌++◌, length, take, drop, bit_xor}
use Rattle.bits.specs.Bits.{bits_of, bits}
use Rattle.bits.specs.Bytes.{bytes_of}
use Rattle.bits.specs.Columns.{picked, units}
use Rattle.pads.specs.Pad.{pad as word_pad}

-- ---- what a frame is made of

-- The bound word: the door number and then the slot, 32 bits each, the highest first. It is never sent: both ends know it.
unfoldable pub bound_word : (door slot : ℕ) → List Bool
bound_word door slot = bits_of 32 door ++ bits_of 32 slot

-- how many bits that is
abbrev pub bound_size : ℕ
bound_size = 64

-- the text of a payload: the bound word, then the bits of the payload
abbrev pub text_of : (door slot : ℕ) (payload : List ℕ) → List Bool
text_of door slot payload = bound_word door slot ++ bits payload

-- how many bits the text of a payload of L bytes has
abbrev pub text_size : ℕ → ℕ
text_size L = bound_size + 8 * L

-- how many bytes a tag of n bits takes
unfoldable pub tag_size : ℕ → ℕ
tag_size n = (n + 7) / 8

-- how many of their bits are left over: they are the lowest of the last byte, zero in every frame, and no part of the tag
abbrev pub spare : ℕ → ℕ
spare n = 8 * tag_size n - n

-- The pad of a frame: that of the width. A word has 64 bits, so that the pad of a width up to 64 has no more than n bits and
-- the remainder changes nothing; it is taken so that all that is said of frames holds whatever number is handed in as a word.
abbrev pub pad_of : (n word : ℕ) → ℕ
pad_of n word = word_pad n word % 2 ^ n

-- the tag: the digest of the text, ⊕ the pad
abbrev pub tag_of : (cs : List ℕ) (pad door slot : ℕ) (payload : List ℕ) → ℕ
tag_of cs pad door slot payload = bit_xor (picked (text_of door slot payload) cs) pad

-- the frame: the payload, and directly behind it the tag, its first bit the highest of its first byte
abbrev pub frame_of : (n : ℕ) (cs : List ℕ) (pad door slot : ℕ) (payload : List ℕ) → List ℕ
frame_of n cs pad door slot payload = payload ++ bytes_of (tag_size n) (tag_of cs pad door slot payload * 2 ^ spare n)

-- ---- a frame that arrives

-- how many bytes of it are payload
abbrev pub payload_size : (n : ℕ) (frame : List ℕ) → ℕ
payload_size n frame = length frame - tag_size n

-- the payload that it carries
abbrev pub payload_of : (n : ℕ) (frame : List ℕ) → List ℕ
payload_of n frame = take (payload_size n frame) frame

-- the n bits of its tag
abbrev pub tag_bits : (n : ℕ) (frame : List ℕ) → List Bool
tag_bits n frame = take n (bits (drop (payload_size n frame) frame))

-- the bits behind its tag
abbrev pub spare_bits : (n : ℕ) (frame : List ℕ) → List Bool
spare_bits n frame = drop n (bits (drop (payload_size n frame) frame))

-- The places of a frame with a payload of L bytes: bit p of the payload at place p, bit k of the tag at place 8 L + k.
abbrev pub places : (n : ℕ) (frame : List ℕ) → List Bool
places n frame = bits (payload_of n frame) ++ tag_bits n frame

-- the syndrome: the tag that arrived, ⊕ the pad, ⊕ the digest of the text that arrived
abbrev pub syndrome : (n : ℕ) (cs : List ℕ) (pad door slot : ℕ) (frame : List ℕ) → ℕ
syndrome n cs pad door slot frame =
    bit_xor (bit_xor (picked (tag_bits n frame) (units n)) pad) (picked (text_of door slot (payload_of n frame)) cs)

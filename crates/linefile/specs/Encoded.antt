-- The bytes of a line file, written from what it has.
use Rattle.std.specs.Prelude.{ℕ, List, ◌++◌, length}
use Rattle.std.specs.List.{flat_map}
use Rattle.bits.specs.Bytes.{bytes_of}
use Rattle.linefile.specs.declared.key.KeyRecord.{KeyRecord}
use Rattle.linefile.specs.File.{SentFrame, Contents, key_count, kind_number}

-- kind, degree, coefficients, state, door number and allowance
unfoldable pub encode_key : KeyRecord → List ℕ
encode_key k =
    bytes_of 1 (kind_number k.kind) ++ (bytes_of 1 k.degree ++ (bytes_of 8 k.coefficients
    ++ (bytes_of 8 k.state ++ (bytes_of 4 k.door ++ bytes_of 1 k.allowance))))

-- slot, length and the frame's bytes
unfoldable pub encode_frame : SentFrame → List ℕ
encode_frame f = bytes_of 4 f.slot ++ (bytes_of 1 (length f.bytes) ++ f.bytes)

-- each section behind its count
unfoldable pub encode : Contents → List ℕ
encode c =
    bytes_of 1 key_count ++ (encode_key c.key
    ++ (bytes_of 2 (length c.words) ++ (flat_map (bytes_of 8) c.words
    ++ (bytes_of 2 (length c.frames) ++ flat_map encode_frame c.frames))))

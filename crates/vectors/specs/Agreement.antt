-- What comparing a pad word with the table answers.
use Rattle.std.specs.Prelude.{ℕ, Bool, List, Some, None, Ok, Err, Option, Result, ◌==◌}
use Rattle.chacha20.specs.Block.{block}
use Rattle.pads.specs.Source.{uncovered}
use Rattle.pads.specs.Sources.{cipher_words}
use Rattle.pads.specs.declared.source.PadFault.{PadFault}
use Rattle.vectors.specs.declared.table.Expected.{Expected}
use Rattle.vectors.specs.declared.table.Expected.TheVariants.{Block, Word}
use Rattle.std.specs.Str.{bytes_eq}

-- Whether the source's word for a slot is the one expected; where it has none, the source's own fault.
abbrev pub agreement : Option ℕ → ℕ → ℕ → Result Bool PadFault
agreement (Some word) slot expected = Ok (word == expected)
agreement None slot expected = Err (uncovered slot)

-- Whether a line agrees: byte by byte for a block, and as above for a word of the cipher source.
abbrev pub agreement_on : Expected → List ℕ → List ℕ → ℕ → Result Bool PadFault
agreement_on (Block bytes) key nonce counter = Ok (bytes_eq (block key nonce counter) bytes)
agreement_on (Word word) key nonce slot = agreement (cipher_words key nonce slot) slot word

-- What an admitted CRC key means.
use Rattle.family.specs.Meaning.{Meaning}
use Rattle.crc.specs.declared.keys.CrcKey.{CrcKey}
use Rattle.crc.specs.Crc.{crc}

-- what its raw key means
abbrev pub crc_key : CrcKey → Meaning
crc_key k = crc k.generator.raw

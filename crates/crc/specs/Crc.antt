-- What a raw key means to the CRC family, and what is asked of it.
use Rattle.std.specs.Prelude.{ℕ, ◌+◌, ◌%◌, cond, List, ◌==◌, count_ones}
use Rattle.family.specs.declared.raw.RawKey.{RawKey}
use Rattle.family.specs.declared.raw.Start.TheVariants.{Zero}
use Rattle.family.specs.Admission.{admission_questions}
use Rattle.family.specs.Meaning.{Meaning}
use Rattle.family.specs.Questions.{Question}
use Rattle.crc.specs.Powers.{crc_columns}

-- 4 if g, its leading term included, has an even number of terms, and 3 otherwise
abbrev pub crc_distance : ℕ → ℕ
crc_distance c = cond ((count_ones c + 1) % 2 == 0) 4 3

-- the key of the generator x^degree plus the terms of the coefficient number
abbrev pub crc : RawKey → Meaning
crc raw = record {
  width = raw.degree;
  reach = raw.reach;
  distance = crc_distance raw.coefficients;
  columns = crc_columns raw.degree raw.coefficients;
}

-- all that admission asks; the state of a CRC key is zero
abbrev pub crc_questions : RawKey → List Question
crc_questions raw = admission_questions Zero raw (crc raw)

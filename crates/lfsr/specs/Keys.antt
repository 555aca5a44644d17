-- Toeplitz keys and MAC-C keys, as raw keys define them.
use Rattle.std.specs.Prelude.{ℕ, ◌+◌, ◌*◌, ◌%◌, List, map, count_ones}
use Rattle.family.specs.declared.raw.RawKey.{RawKey}
use Rattle.family.specs.declared.raw.Start.TheVariants.{Nonzero}
use Rattle.family.specs.Admission.{admission_questions}
use Rattle.family.specs.Meaning.{Meaning}
use Rattle.family.specs.Orbits.{orbit}
use Rattle.family.specs.Questions.{Question}
use Rattle.lfsr.specs.Register.{step}

-- the register of a raw key: its state, and that state after 1 step, 2 steps and so on, m of them
abbrev pub states : RawKey → ℕ → List ℕ
states raw m = orbit (step raw.degree raw.coefficients) m raw.state

-- A Toeplitz key: column j is the register after j steps, its oldest bit at tag place 0.
abbrev pub toeplitz : RawKey → Meaning
toeplitz raw = record { width = raw.degree; reach = raw.reach; distance = 3; columns = states raw }

-- a state followed by the bit that makes its ones even
unfoldable pub evened : ℕ → ℕ
evened s = s * 2 + count_ones s % 2

-- A MAC-C key: column j is the register after j steps, followed by the bit that makes its ones even.
abbrev pub mac_c : RawKey → Meaning
mac_c raw = record { width = raw.degree + 1; reach = raw.reach; distance = 3; columns = λ m. map evened (states raw m) }

-- what admission asks of a raw key of each family
abbrev pub toeplitz_questions : RawKey → List Question
toeplitz_questions raw = admission_questions Nonzero raw (toeplitz raw)

abbrev pub mac_c_questions : RawKey → List Question
mac_c_questions raw = admission_questions Nonzero raw (mac_c raw)

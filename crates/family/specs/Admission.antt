-- What is asked of a raw key, and of a text that is handed to a key.
use Rattle.std.specs.Prelude.{◌≡◌, ℕ, ◌*◌, ◌%◌, ◌^◌, ◌<◌, ◌≤◌, List, [], ◌∷◌, ◌++◌, length}
use Rattle.family.specs.declared.raw.RawKey.{RawKey}
use Rattle.family.specs.declared.raw.Start.{Start}
use Rattle.family.specs.declared.raw.Start.TheVariants.{Zero, Nonzero}
use Rattle.family.specs.declared.refusals.AdmissionRefusal.{AdmissionRefusal}
use Rattle.family.specs.declared.refusals.AdmissionRefusal.TheVariants.{Degree, Coefficients, LowestCoefficient, State, Reach, Columns}
use Rattle.family.specs.declared.refusals.OutOfReach.{OutOfReach}
use Rattle.bits.specs.Columns.{units}
use Rattle.family.specs.Meaning.{Meaning, Separate, longest_reach}
use Rattle.family.specs.Questions.{Question, asks}

-- the number of each refusal of a raw key
abbrev pub admission_number : AdmissionRefusal → ℕ
admission_number Degree = 1
admission_number Coefficients = 2
admission_number LowestCoefficient = 3
admission_number State = 4
admission_number Reach = 5
admission_number Columns = 6

-- the number of the refusal of a text length that the key does not reach, or that the bytes do not hold
abbrev pub reach_number : OutOfReach → ℕ
reach_number _ = 8

-- the states that a family starts from: zero alone, or every other state of `degree` bits
abbrev pub StateFits : Start → RawKey → Type 0
StateFits Zero raw = raw.state ≡ 0
StateFits Nonzero raw = (1 ≤ raw.state) × (raw.state < 2 ^ raw.degree)

-- what is asked of a raw key's numbers; bit i of the coefficient number is the coefficient of x^i
abbrev pub form_questions : Start → RawKey → List Question
form_questions start raw =
    asks ((3 ≤ raw.degree) × (raw.degree ≤ 63)) 1
    ∷ asks (raw.coefficients < 2 ^ raw.degree) 2
    ∷ asks (raw.coefficients % 2 ≡ 1) 3
    ∷ asks (StateFits start raw) 4
    ∷ asks ((1 ≤ raw.reach) × (raw.reach ≤ longest_reach)) 5
    ∷ []

-- what is asked of the key that they would make: at the wanted reach all its columns and unit columns are
-- different, and none is zero
abbrev pub columns_questions : Meaning → List Question
columns_questions k = asks (Separate (k.columns k.reach ++ units k.width)) 6 ∷ []

-- all that admission asks, of a family whose raw keys start so and would mean k
abbrev pub admission_questions : Start → RawKey → Meaning → List Question
admission_questions start raw k = form_questions start raw ++ columns_questions k

-- what is asked of a text length m: it is 1 to the reach
abbrev pub length_questions : ℕ → ℕ → List Question
length_questions reach m = asks ((1 ≤ m) × (m ≤ reach)) 8 ∷ []

-- what is asked of a text of m bits: m is 1 to the reach, and the bytes hold m bits
abbrev pub text_questions : ℕ → ℕ → List ℕ → List Question
text_questions reach m text = asks ((1 ≤ m) × (m ≤ reach) × (m ≤ 8 * length text)) 8 ∷ []

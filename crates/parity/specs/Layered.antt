-- The parity layer over a key of any family.
use Rattle.std.specs.Prelude.{ℕ, ◌+◌, ◌*◌, ◌%◌, ◌≤◌, cond, List, [], ◌∷◌, map, count_ones, nat_le}
use Rattle.family.specs.Meaning.{Meaning}
use Rattle.family.specs.Questions.{Question, asks}

-- a column followed by the bit that makes the number of its ones odd
unfoldable pub odded : ℕ → ℕ
odded a = a * 2 + (count_ones a + 1) % 2

-- the widest key that leaves room for one more bit
abbrev pub widest_below : ℕ
widest_below = 63

-- the layer over a key that leaves room: one bit wider, every column odd, and distance 4
abbrev pub with_parity : Meaning → Meaning
with_parity k = record { width = k.width + 1; reach = k.reach; distance = 4; columns = λ m. map odded (k.columns m) }

-- The layer over any key. One that leaves no room is refused when a layer is laid over it; the layer would mean the key itself.
abbrev pub layered : Meaning → Meaning
layered k = cond (nat_le k.width widest_below) (with_parity k) k

-- what is asked of the key below
abbrev pub layer_questions : Meaning → List Question
layer_questions k = asks (k.width ≤ widest_below) 7 ∷ []

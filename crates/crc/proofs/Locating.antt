-- The columns of a text, met from the last one back.
use Rattle.std.proofs.Common.{◌≡◌, ℕ, ◌+◌, ◌-◌, ◌<◌, ◌≤◌, ◌++◌, Some, None, get_or, sym, ap, ◌∙◌, arith}
use Rattle.bits.specs.Columns.{place, units}
use Rattle.bits.proofs.Locating.{at_place, at_no_place, place-first, place_none}
use Rattle.family.specs.Meaning.{Separate}
use Rattle.family.specs.Orbits.{iterate, orbit}
use Rattle.family.proofs.OrbitColumns.{length_orbit, get_or-orbit, iterate_add}
use Rattle.family.proofs.Separates.{separate_left}
use Rattle.crc.specs.Powers.{times_x, power, crc_columns}
use Rattle.crc.specs.PowersLemmas.{length-falling, get_or-falling, power-top}

module _ (n c m : ℕ) (some : 1 ≤ n) where
  -- from the last column back they are made by multiplying by x
  column_back : (j : ℕ) → j < m → get_or (orbit (times_x n c) m c) j 0 ≡ get_or (crc_columns n c m) (m - 1 - j) 0
  column_back j h =
      let back : n + j ≡ n + (m - 1 - (m - 1 - j)) = omega arith in
      get_or-orbit (times_x n c) m c j h
      ∙ ap (iterate (times_x n c) j) (sym (power-top n c some)) ∙ sym (iterate_add (times_x n c) n j 1)
      ∙ ap (power n c) back ∙ sym (get_or-falling n c n m (m - 1 - j) (omega arith))

  module _ (x : ℕ) where
    pub none_back : place x (orbit (times_x n c) m c) ≡ None → place x (crc_columns n c m) ≡ None
    none_back none =
        place_none x (crc_columns n c m)
        (λ i h e.
        let within : i < m = omega (arith, length-falling n c n m) in
        let forth : m - 1 - (m - 1 - i) ≡ i = omega arith in
        at_no_place x (orbit (times_x n c) m c) none (m - 1 - i) (omega (arith, length_orbit (times_x n c) m c))
        (column_back (m - 1 - i) (omega arith) ∙ ap (λ k. get_or (crc_columns n c m) k 0) forth ∙ e))

    pub within_back : (j : ℕ) → place x (orbit (times_x n c) m c) ≡ Some j → j < m
    within_back j e = omega (arith, (at_place x (orbit (times_x n c) m c) j e).0, length_orbit (times_x n c) m c)

    -- and since no column comes twice, the first from the back is the first
    pub place_back : Separate (crc_columns n c m ++ units n) → (j : ℕ) → place x (orbit (times_x n c) m c) ≡ Some j → place x (crc_columns n c m) ≡ Some (m - 1 - j)
    place_back s j e =
        let within : j < m = within_back j e in
        let long = length-falling n c n m in
        let at = sym (column_back j within) ∙ (at_place x (orbit (times_x n c) m c) j e).1 in
        place-first x (crc_columns n c m) (m - 1 - j) (omega arith) at
        (λ i h same. (separate_left (crc_columns n c m) (units n) s).1 i (m - 1 - j) h (omega arith) (same ∙ sym at))

-- Every admitted key of either family keeps the law.
use Rattle.std.specs.Prelude.{◌≡◌, ℕ, ◌+◌, ◌^◌, ◌<◌, ◌≤◌, ◌++◌, length, slice_index, refl}
use Rattle.std.proofs.Common.{sym, ap, ◌∙◌, subst, arith, add-zero}
use Rattle.std.specs.List.{AllByRecursion}
use Rattle.std.proofs.lemmas.List.{length-map, get_or-map, map-id}
use Rattle.bits.specs.Columns.{units}
use Rattle.family.specs.declared.raw.RawKey.{RawKey}
use Rattle.family.specs.Meaning.{Meaning, Lawful, NoneZero, AllDifferent}
use Rattle.family.proofs.Laws.{lawful_at_3}
use Rattle.family.proofs.OrbitColumns.{length_orbit, get_or-orbit, orbit_below, separate-fewer}
use Rattle.lfsr.specs.declared.register.Register.{Register}
use Rattle.lfsr.specs.ColumnLaws.{IsColumnOf}
use Rattle.lfsr.specs.ColumnsOfStates.{all_column}
use Rattle.lfsr.specs.EvenOnes.{evened-zero, evened-xor, evened-apart, evened-lt}
use Rattle.lfsr.specs.Keys.{mac_c, toeplitz, states, evened}
use Rattle.lfsr.specs.Register.{step}
use Rattle.lfsr.specs.Stepping.{step-below}

-- a Toeplitz column is a state
pub toeplitz_columns : IsColumnOf (λ s. s) 0 toeplitz
toeplitz_columns = record {
  of_zero = refl;
  of_xor = λ a b. refl;
  apart = λ a b e. e;
  below = λ n a h. subst (λ k. a < 2 ^ k) (sym (add-zero n)) h;
  few = omega arith;
  width = λ raw. sym (add-zero raw.degree);
  reach = λ raw. refl;
  distance = λ raw. refl;
  columns = λ raw m. sym (map-id (states raw m));
}

-- a MAC-C column is a state with even ones
pub mac_c_columns : IsColumnOf evened 1 mac_c
mac_c_columns = record {
  of_zero = evened-zero;
  of_xor = evened-xor;
  apart = evened-apart;
  below = evened-lt;
  few = omega arith;
  width = λ raw. refl;
  reach = λ raw. refl;
  distance = λ raw. refl;
  columns = λ raw m. refl;
}

module _ (column : ℕ → ℕ) (extra : ℕ) (meant : RawKey → Meaning) (laws : IsColumnOf column extra meant) (g : Register) where
  columns_count : (m : ℕ) → length ((meant g.raw).columns m) ≡ m
  columns_count m =
      ap length (laws.columns g.raw m) ∙ length-map (states g.raw m) column
      ∙ length_orbit (step g.raw.degree g.raw.coefficients) m g.raw.state

  columns_at : (m i : ℕ) → i < m → slice_index ((meant g.raw).columns m) i ≡ column (slice_index (states g.raw m) i)
  columns_at m i h =
      ap (λ cs. slice_index cs i) (laws.columns g.raw m)
      ∙ get_or-map column (states g.raw m) i 0 0 (omega (arith, length_orbit (step g.raw.degree g.raw.coefficients) m g.raw.state))

  pub register_lawful : NoneZero ((meant g.raw).columns g.raw.reach ++ units (meant g.raw).width)
      → AllDifferent ((meant g.raw).columns g.raw.reach ++ units (meant g.raw).width) → Lawful (meant g.raw)
  register_lawful nonzero different =
      let raw = g.raw in
      let k = meant raw in
      let n = raw.degree in
      let f = step n raw.coefficients in
      let wide : k.width ≡ n + extra = laws.width raw in
      let far : k.reach ≡ raw.reach = laws.reach raw in
      let little : extra ≤ 1 = laws.few in
      let some : 1 ≤ n = omega arith in
      lawful_at_3 k (laws.distance raw)
      (λ m low high. columns_count m)
      (λ m low high. separate-fewer k.width (k.columns raw.reach) (k.columns m) (omega (arith, columns_count m, columns_count raw.reach))
      (λ i h.
      let within : i < m = omega (arith, columns_count m) in
      let here : i < raw.reach = omega arith in
      columns_at m i within ∙ ap column (get_or-orbit f m raw.state i within ∙ sym (get_or-orbit f raw.reach raw.state i here)) ∙ sym (columns_at raw.reach i here))
      (nonzero, different))
      (omega arith) (omega arith) (omega arith) (omega arith)
      (λ m low high.
      subst (λ w. AllByRecursion (λ c. c < 2 ^ w) (k.columns m)) (sym wide)
      (subst (AllByRecursion (λ c. c < 2 ^ (n + extra))) (sym (laws.columns raw m))
      (all_column column n (n + extra) (laws.below n) (states raw m) (orbit_below f n (λ a _. step-below n raw.coefficients a some) m raw.state g.started.1))))

-- so every Toeplitz key keeps the law
pub toeplitz_lawful : (g : Register) → NoneZero ((toeplitz g.raw).columns g.raw.reach ++ units g.raw.degree)
    → AllDifferent ((toeplitz g.raw).columns g.raw.reach ++ units g.raw.degree) → Lawful (toeplitz g.raw)
toeplitz_lawful = register_lawful (λ s. s) 0 toeplitz toeplitz_columns

-- and every MAC-C key
pub mac_c_lawful : (g : Register) → NoneZero ((mac_c g.raw).columns g.raw.reach ++ units (g.raw.degree + 1))
    → AllDifferent ((mac_c g.raw).columns g.raw.reach ++ units (g.raw.degree + 1)) → Lawful (mac_c g.raw)
mac_c_lawful = register_lawful evened 1 mac_c mac_c_columns

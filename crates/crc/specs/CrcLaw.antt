-- Every admitted CRC key keeps the law.
use Rattle.std.specs.Prelude.{◌≡◌, ℕ, ◌+◌, ◌%◌, ◌^◌, ◌<◌, ◌≤◌, ◌++◌, ◌==◌, length, count_ones}
use Rattle.std.specs.List.{AllByRecursion}
use Rattle.std.proofs.Common.{⊎_elim, arith}
use Rattle.std.proofs.lemmas.Bool.{cases_eq, cond-true, cond-false, eq-eqb, ne_eqb}
use Rattle.bits.specs.Columns.{units}
use Rattle.family.specs.Meaning.{Lawful, Separate}
use Rattle.family.proofs.Laws.{lawful_at_3}
use Rattle.family.proofs.OddColumns.{lawful_at_4}
use Rattle.crc.specs.declared.keys.CrcKey.{CrcKey}
use Rattle.crc.specs.Admitted.{crc_key}
use Rattle.crc.specs.Crc.{crc}
use Rattle.crc.specs.Powers.{crc_columns}
use Rattle.crc.specs.PowersLemmas.{length-falling, falling-below, falling-odd, columns_fewer}

pub crc_lawful : (k : CrcKey) → Lawful (crc_key k)
crc_lawful k =
    let raw = k.generator.raw in
    let n : ℕ = raw.degree in
    let c : ℕ = raw.coefficients in
    let count : (m : ℕ) → 1 ≤ m → m ≤ raw.reach → length (crc_columns n c m) ≡ m = λ m low high. length-falling n c n m in
    let below : (m : ℕ) → 1 ≤ m → m ≤ raw.reach → AllByRecursion (λ x. x < 2 ^ n) (crc_columns n c m) = λ m low high. falling-below n c n m (omega arith) (omega arith) in
    let separate : (m : ℕ) → 1 ≤ m → m ≤ raw.reach → Separate (crc_columns n c m ++ units n) =
    λ m low high. columns_fewer n c m raw.reach (omega arith) high (k.nonzero, k.different) in
    ⊎_elim
    (λ (even : (count_ones c + 1) % 2 ≡ 0).
    lawful_at_4 (crc raw) (cond-true ((count_ones c + 1) % 2 == 0) 4 3 (eq-eqb _ 0 even)) count separate
    (λ m low high. falling-odd n c n m (omega arith) (omega arith) (omega arith))
    (omega arith) (omega arith) (omega arith) (omega arith) below)
    (λ (odd : (count_ones c + 1) % 2 ≡ 0 → ⊥).
    lawful_at_3 (crc raw) (cond-false ((count_ones c + 1) % 2 == 0) 4 3 (ne_eqb _ 0 odd)) count separate
    (omega arith) (omega arith) (omega arith) (omega arith) below)
    (cases_eq ((count_ones c + 1) % 2) 0)

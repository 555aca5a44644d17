-- How long the lines are, where each number that they tell fits 64 bits.
use Rattle.std.proofs.Common.{ℕ, ◌^◌, ◌<◌, ◌≤◌, length, decimal, arith, lit<, length-append}
use Rattle.std.proofs.lemmas.Fmt.{length-decimal-le}
use Rattle.linewriter.specs.Lines.{file_line, key_line, opened_line, mended_line, refused_line, totals_line}

-- a number of 64 bits has at most 20 digits
pub digits_short : (n : ℕ) → n < 2 ^ 64 → length (decimal n) ≤ 20
digits_short n small = length-decimal-le 20 n (lit< tt) (omega arith) small

pub file_line-short : (number place : ℕ) → number < 2 ^ 64 → place < 2 ^ 64 → length (file_line number place) ≤ 60
file_line-short number place h k = grind (arith, length-append, digits_short number h, digits_short place k)

pub key_line-short : (number : ℕ) → number < 2 ^ 64 → length (key_line number) ≤ 40
key_line-short number h = grind (arith, length-append, digits_short number h)

pub opened_line-short : (slot size : ℕ) → slot < 2 ^ 64 → size < 2 ^ 64 → length (opened_line slot size) ≤ 80
opened_line-short slot size h k = grind (arith, length-append, digits_short slot h, digits_short size k)

pub mended_line-short : (slot size place : ℕ) → slot < 2 ^ 64 → size < 2 ^ 64 → place < 2 ^ 64 → length (mended_line slot size place) ≤ 80
mended_line-short slot size place h k l =
    grind (arith, length-append, digits_short slot h, digits_short size k, digits_short place l)

pub refused_line-short : (slot number : ℕ) → slot < 2 ^ 64 → number < 2 ^ 64 → length (refused_line slot number) ≤ 80
refused_line-short slot number h k = grind (arith, length-append, digits_short slot h, digits_short number k)

pub totals_line-short : (opened mended refused : ℕ) → opened < 2 ^ 64 → mended < 2 ^ 64 → refused < 2 ^ 64 → length (totals_line opened mended refused) ≤ 90
totals_line-short opened mended refused h k l =
    grind (arith, length-append, digits_short opened h, digits_short mended k, digits_short refused l)

-- what holds of the length of each line
pub ruleset lines_short = (file_line-short, key_line-short, opened_line-short, mended_line-short, refused_line-short, totals_line-short)

-- A piece that has no room is a part of the line.
use Rattle.std.proofs.Common.{ℕ, ◌+◌, ◌<◌, List, [], ◌∷◌, length, get_or, take, flat_map, decimal, arith, length-append}
use Rattle.std.proofs.lemmas.List.Folds.{length-flat_map-take}
use Rattle.std.specs.Borrow.{Bor}
use Rattle.linewriter.specs.Lines.{line_of, part_text}
use Rattle.linewriter.proofs.page.Page.write_parts.Goals as goal

-- a part and those before it are shorter than the line
part_within : (parts : List (Bor (List ℕ) × ℕ)) (i : ℕ) (part : Bor (List ℕ) × ℕ) → i < length parts →
    length (flat_map part_text (take i parts)) + (length (get_or parts i part).0.now + length (decimal (get_or parts i part).1)) < length (line_of parts)
part_within parts i part h =
    omega (arith, length-flat_map-take part_text parts i part h, length-append (get_or parts i part).0.now (decimal (get_or parts i part).1), length-append (flat_map part_text parts) (10 ∷ []))

pub returns-in_err-append-clause-full : goal.returns-in_err-append-clause-full
returns-in_err-append-clause-full c =
    λ _. grind (arith, length-append, part_within, c.in_err-append.ensures, c.loop-words.invariant, c.as_bytes.ensures.value, c.loop-words-test.true)

pub returns-in_err-append-2-clause-full : goal.returns-in_err-append-2-clause-full
returns-in_err-append-2-clause-full c =
    λ _. grind (arith, length-append, part_within, c.in_err-append-2.ensures, c.in_ok-append.ensures, c.loop-words.invariant, c.as_bytes.ensures.value, c.as_bytes-in-loop-words.ensures.value, c.format.ensures.text, c.loop-words-test.true)

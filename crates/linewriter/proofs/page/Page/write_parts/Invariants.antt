-- The parts so far stand behind what was written.
use Rattle.std.proofs.Common.{◌≡◌, ◌++◌, take, flat_map}
use Rattle.linewriter.specs.Lines.{part_text}
use Rattle.linewriter.specs.Pages.{written}
use Rattle.linewriter.proofs.page.Page.write_parts.Given as goal

abbrev pub invariant-loop-words : goal.invariant-loop-words
invariant-loop-words l = written l.self ≡ written l.initial.self ++ flat_map part_text (take l.words-index l.parts)

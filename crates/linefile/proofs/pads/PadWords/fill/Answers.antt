use Rattle.std.proofs.Common.{◌≡◌, length, map, take, sym, subst, ◌∙◌, arith, rules}
use Rattle.std.proofs.lemmas.List.{map-id, take_all}
use Rattle.linefile.specs.File.{counted, most_pads, pad_word}
use Rattle.linefile.specs.Parsed.{Passes}
use Rattle.linefile.proofs.pads.PadWords.fill.Goals as goal

pub returns : goal.returns
returns c =
    let s = c.in_ok-count.ensures in
    let many = s.many in
    let few = s.few in
    let room : length c.args.self.now.words ≡ most_pads = search rules in
    let all : take c.in_ok-count.count c.section.new.kept ≡ map (λ w. w) s.items = s.held ∙ take_all (length c.args.self.now.words) s.items (omega arith) ∙ sym (map-id s.items) in
    subst (λ ws. Passes (counted most_pads pad_word) c.args.left.now ws c.section.new.left) (sym all) s.passes

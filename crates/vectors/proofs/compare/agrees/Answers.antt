-- The word of the cipher source that the line describes.
use Rattle.std.proofs.Common.{◌≡◌, sym, ◌∙◌, subst, ap₂}
use Rattle.pads.specs.Sources.{cipher_words}
use Rattle.vectors.specs.Agreement.{agreement, agreement_on}
use Rattle.vectors.specs.declared.table.Expected.{Expected}
use Rattle.vectors.proofs.compare.agrees.Goals as goal

pub returns-in-Word : goal.returns-in-Word
returns-in-Word c =
    let e = c.args.entry.now in
    let P : Expected → Type 0 = λ x. c.word_agrees.result ≡ agreement_on x e.key e.nonce e.counter in
    subst P (sym c.in-Word.is)
    (c.word_agrees.ensures
    ∙ ap₂ (λ k n. agreement (cipher_words k n e.counter) e.counter c.in-Word.expected)
    c.new.ensures.key c.new.ensures.nonce)

use Rattle.std.proofs.Common.{◌-◌, ◌≤◌, min, length, take, drop, ap, ◌∙◌, arith, rules}
use Rattle.linefile.specs.Parsed.{frames_in}
use Rattle.linefile.proofs.FramesInBytes.{no_frames, frames_short, split_frames}
use Rattle.linefile.proofs.frames.FrameList.split_first.Goals as goal

pub returns-then-self-eq0 : goal.returns-then-self-eq0
returns-then-self-eq0 c = ap (λ n. frames_in n c.args.self.bytes.now) c.if-self-eq0.true ∙ no_frames c.args.self.bytes.now

pub returns-in_default : goal.returns-in_default
returns-in_default c = frames_short c.args.self.count c.args.self.bytes.now (search rules)

pub returns : goal.returns
returns c =
    let h : 5 ≤ length c.args.self.bytes.now = search rules in
    (split_frames c.args.self.count c.args.self.bytes.now _ _ c.if-self-eq0.false h c.from_be_bytes.ensures (c.min-size.ensures ∙ ap (λ n. min n (length (take (length c.args.self.bytes.now - 5) (drop 5 c.args.self.bytes.now)))) c.from.ensures), omega arith)

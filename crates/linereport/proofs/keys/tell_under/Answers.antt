-- A door's end that was created tells the page under its key.
use Rattle.std.proofs.Common.{◌∙◌}
use Rattle.ends.specs.States.{door_state}
use Rattle.linefile.specs.Parsed.{contents_of}
use Rattle.linereport.proofs.KeyTelling.{tells_page}
use Rattle.linereport.proofs.keys.tell_under.Goals as goal

pub returns : goal.returns
returns g c =
    let made = c.in_ok-door.ensures in (
      made.0,
      tells_page (g.F.Family.meaning c.args.key) (contents_of c.args.file.now) c.new-pads.result.words.now (door_state g.F.Family.meaning c.in_ok-door.door) _
          (c.new-pads.ensures ∙ c.as_slice.ensures.value) made.1 c.tell_frames.ensures,
    )

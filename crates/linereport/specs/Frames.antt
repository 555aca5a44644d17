-- The frames of a file: what a door's end answers to them, one after the other.
use Rattle.std.specs.Prelude.{ℕ, List, [], ◌∷◌, replicate}
use Rattle.frames.specs.Limits.{longest_payload}
use Rattle.account.specs.Calls.{Pads, Answer}
use Rattle.account.specs.Ends.{EndState, EndReply, open_reply}
use Rattle.linefile.specs.File.{SentFrame}

-- An output buffer that holds every payload. What it holds before an open does not matter to any answer.
abbrev pub room : List ℕ
room = replicate longest_payload 0

-- what a door's end replies to a frame
abbrev pub frame_reply : Pads → EndState → SentFrame → EndReply
frame_reply pads door f = open_reply door f.slot f.bytes room pads

-- what it answers to frames in order
unfoldable pub answers : Pads → EndState → List SentFrame → List Answer
answers pads door [] = []
answers pads door (f ∷ fs) = (frame_reply pads door f).answer ∷ answers pads (frame_reply pads door f).after fs

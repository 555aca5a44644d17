-- Laws above the definition of the report.
use Rattle.std.specs.Prelude.{◌≡◌, ℕ, ◌+◌, List, map, length}
use Rattle.pads.specs.Sources.{book_words}
use Rattle.account.specs.Calls.{Call, Open}
use Rattle.account.specs.Account.{Step, outcomes, account_after, Creations, created}
use Rattle.linefile.specs.File.{SentFrame, Contents}
use Rattle.linewriter.specs.Counting.{totals_of}
use Rattle.linereport.specs.Keys.{record_meaning}
use Rattle.linereport.specs.Frames.{room}
use Rattle.linereport.specs.Report.{Reports, answers_under}

-- A file has one report.
abbrev pub OneReport : Type 0
OneReport = (file text other : List ℕ) → Reports file text → Reports file other → text ≡ other

-- the opens that a file asks for, as calls of a run
abbrev pub opens_of : Contents → List Call
opens_of c = map (λ (f : SentFrame). Open f.slot f.bytes room (book_words c.words)) c.frames

-- two creations of which the door's is that of the file
pub record DoorOf (c : Contents) (run : Creations) : Type 0 where
  pub key : run.door_key ≡ record_meaning c.key
  pub number : run.door_number ≡ c.key.door
  pub allowance : run.allowance ≡ c.key.allowance

-- Whatever the reader's end is: what the lines tell of the frames is what the account of a run works out for those opens; the
-- lines that were opened or mended are as many as the payloads that it hands over; and there is a line for each frame.
pub record FollowsTheAccount (c : Contents) (run : Creations) : Type 0 where
  pub lines : answers_under (record_meaning c.key) c ≡ map (λ (s : Step). s.answer) (outcomes (created run) (opens_of c))
  pub handed :
      let t = totals_of (answers_under (record_meaning c.key) c) in
      t.opened + t.mended ≡ length (account_after (created run) (opens_of c)).handed
  pub each :
      let t = totals_of (answers_under (record_meaning c.key) c) in
      t.opened + t.mended + t.refused ≡ length c.frames

abbrev pub LinesFollowTheAccount : Type 0
LinesFollowTheAccount = (c : Contents) (run : Creations) → DoorOf c run → FollowsTheAccount c run

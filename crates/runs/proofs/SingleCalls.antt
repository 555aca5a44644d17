-- Single calls are runs of one.
use Rattle.std.proofs.Common.{sym, refl, ap}
use Rattle.account.specs.Calls.{AtReader, AtDoor, Seal, Open, Appoint, Strike, Withdraw}
use Rattle.account.specs.Ends.{from_reader, from_door}
use Rattle.account.proofs.Sequences.{in_sequence}
use Rattle.runs.specs.Calls.{both}
use Rattle.runs.specs.Single.{SingleCalls}

pub single_calls : SingleCalls
single_calls =
    record {
      creations = λ c reader_law door_law reader_passes door_passes.
          (record { reader_law = reader_law; door_law = door_law; reader_passes = reader_passes; door_passes = door_passes }, refl);
      seals = λ e e' slot payload buffer out pads r bytes follows door.
          in_sequence.one (both e door) (both e' door) (Seal slot payload buffer pads) _ bytes
          (λ reaches _. ap (from_reader (both e door)) (sym (follows reaches)));
      opens = λ e e' slot frame buffer out pads r bytes follows reader.
          in_sequence.one (both reader e) (both reader e') (Open slot frame buffer pads) _ bytes
          (λ _ reaches. ap (from_door (both reader e)) (sym (follows reaches)));
      appoints = λ e e' key start r law follows. (
        (λ door. in_sequence.one (both e door) (both e' door) (Appoint AtReader key start) _ law (λ _ _. ap (from_reader (both e door)) (sym follows))),
        (λ reader. in_sequence.one (both reader e) (both reader e') (Appoint AtDoor key start) _ law (λ _ _. ap (from_door (both reader e)) (sym follows))),
      );
      strikes = λ e e' r follows. (
        (λ door. in_sequence.one (both e door) (both e' door) (Strike AtReader) _ tt (λ _ _. ap (from_reader (both e door)) (sym follows))),
        (λ reader. in_sequence.one (both reader e) (both reader e') (Strike AtDoor) _ tt (λ _ _. ap (from_door (both reader e)) (sym follows))),
      );
      withdraws = λ e e' r follows. (
        (λ door. in_sequence.one (both e door) (both e' door) (Withdraw AtReader) _ tt (λ _ _. ap (from_reader (both e door)) (sym follows))),
        (λ reader. in_sequence.one (both reader e) (both reader e') (Withdraw AtDoor) _ tt (λ _ _. ap (from_door (both reader e)) (sym follows))),
      );
    }

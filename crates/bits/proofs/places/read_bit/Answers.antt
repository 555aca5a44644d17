-- `read_bit`: the byte of the place, and in it the bit; past the end there is none.
use Rattle.std.proofs.Common.{◌≡◌, ◌-◌, ◌/◌, ◌%◌, ◌^◌, ◌<◌, ◌≤◌, false, eqb, length, get_or, Some, sym, ap, ◌∙◌, arith}
use lib.Bits.{and_mask}
use Rattle.std.proofs.lemmas.List.{get_or_default}
use Rattle.std.proofs.lemmas.Option.{slice_get-get_or, slice_get_past}
use Rattle.std.proofs.lemmas.Bool.{ltb-true, ltb-false}
use Rattle.bits.specs.Bits.{bits}
use Rattle.bits.proofs.Runs.{length-bits, bits_at}
use Rattle.bits.proofs.places.read_bit.Goals as goal

pub returns-in_err-byte : goal.returns-in_err-byte
returns-in_err-byte c =
    let bytes = c.args.bytes.now in
    let place = c.args.place in
    let past : length bytes ≤ place / 8 = ltb-false (place / 8) (length bytes) (sym c.in_err-byte.ensures.lookup.0) in
    c.from_residual.ensures ∙ sym (slice_get_past (bits bytes) place (omega (arith, length-bits bytes)))

pub returns : goal.returns
returns c =
    let bytes = c.args.bytes.now in
    let place = c.args.place in
    let byte = c.in_ok-byte.byte.now in
    let within : place / 8 < length bytes = ltb-true (place / 8) (length bytes) (sym c.in_ok-byte.ensures.lookup.0) in
    let is : byte ≡ get_or bytes (place / 8) 0 = c.in_ok-byte.ensures.lookup.1 ∙ get_or_default bytes (place / 8) byte 0 within in
    ap (λ x. Some (eqb x 1)) (and_mask (byte / 2 ^ (7 - place % 8)) 1)
    ∙ ap (λ b. Some (eqb (b / 2 ^ (7 - place % 8) % 2) 1)) is
    ∙ ap Some (sym (bits_at bytes place within))
    ∙ sym (slice_get-get_or (bits bytes) place false (omega (arith, length-bits bytes)))

-- Each family's key is refused by its admission, or told of further.
use Rattle.std.proofs.lemmas.Result.{err_from_is_err_and}
use Rattle.linefile.specs.declared.key.KeyFamily.TheVariants.{Crc, Toeplitz, MacC}
use Rattle.linefile.specs.Parsed.{contents_of}
use Rattle.crc.specs.Admitted.{crc_key}
use Rattle.lfsr.specs.Keys.{toeplitz, mac_c}
use Rattle.linereport.proofs.KeyTelling.{not_admitted, admitted}
use Rattle.linereport.proofs.keys.tell_file.Goals as goal

pub returns-in_err-admit-in-Crc : goal.returns-in_err-admit-in-Crc
returns-in_err-admit-in-Crc c =
    let p = err_from_is_err_and c.from_residual.result c.from_residual.ensures.1 in
    rw (p.1, p.2) (not_admitted c.args.file.now.key Crc c.raw_key-raw.result _ c.in-Crc.is c.raw_key-raw.ensures c.in_err-admit-in-Crc.ensures.asked)

pub returns-in_err-admit-in-Toeplitz : goal.returns-in_err-admit-in-Toeplitz
returns-in_err-admit-in-Toeplitz c =
    let p = err_from_is_err_and c.from_residual-in_err-admit-in-Toeplitz.result c.from_residual-in_err-admit-in-Toeplitz.ensures.1 in
    rw (p.1, p.2) (not_admitted c.args.file.now.key Toeplitz c.raw_key-raw.result _ c.in-Toeplitz.is c.raw_key-raw.ensures c.in_err-admit-in-Toeplitz.ensures)

pub returns-in_err-admit-in-MacC : goal.returns-in_err-admit-in-MacC
returns-in_err-admit-in-MacC c =
    let p = err_from_is_err_and c.from_residual-in_err-admit-in-MacC.result c.from_residual-in_err-admit-in-MacC.ensures.1 in
    rw (p.1, p.2) (not_admitted c.args.file.now.key MacC c.raw_key-raw.result _ c.in-MacC.is c.raw_key-raw.ensures c.in_err-admit-in-MacC.ensures)

pub returns-in_ok-admit-in-Crc : goal.returns-in_ok-admit-in-Crc
returns-in_ok-admit-in-Crc c =
    let a = c.in_ok-admit-in-Crc.ensures.asked in
    admitted c.args.file.now.key (contents_of c.args.file.now) Crc c.raw_key-raw.result (crc_key c.in_ok-admit-in-Crc.field-0) _ c.in-Crc.is c.raw_key-raw.ensures a.0 a.1 c.tell_laid.ensures

pub returns-in_ok-admit-in-Toeplitz : goal.returns-in_ok-admit-in-Toeplitz
returns-in_ok-admit-in-Toeplitz c =
    let a = c.in_ok-admit-in-Toeplitz.ensures in
    admitted c.args.file.now.key (contents_of c.args.file.now) Toeplitz c.raw_key-raw.result (toeplitz c.in_ok-admit-in-Toeplitz.field-0.register.raw) _ c.in-Toeplitz.is c.raw_key-raw.ensures a.0 a.1 c.tell_laid-in-Toeplitz.ensures

pub returns-in_ok-admit-in-MacC : goal.returns-in_ok-admit-in-MacC
returns-in_ok-admit-in-MacC c =
    let a = c.in_ok-admit-in-MacC.ensures in
    admitted c.args.file.now.key (contents_of c.args.file.now) MacC c.raw_key-raw.result (mac_c c.in_ok-admit-in-MacC.field-0.register.raw) _ c.in-MacC.is c.raw_key-raw.ensures a.0 a.1 c.tell_laid-in-MacC.ensures

use Rattle.linefile.specs.File.{decode}
use Rattle.linelaws.proofs.Written.{reads_file, bytes_written}
use Rattle.linelaws.proofs.Recovered.{nothing_else}
use Rattle.linelaws.proofs.files_are_read_back.Goals as goal

pub returns : goal.returns
unfolding decode
returns c = record { bytes = bytes_written; back = λ x f. (reads_file x f).whole 0; alone = nothing_else }

-- `decode` reads the lines in order. The invariant: what has been read and what is left make the answer.
use Rattle.std.proofs.Common.{◌-◌, length}
use Rattle.file_decoder.proofs.HeldFile.{Progress}
use Rattle.file_decoder.proofs.file.decode.Given as goal

abbrev pub invariant-loop-at : goal.invariant-loop-at
invariant-loop-at l = Progress l.file l.code l.rows l.s l.at l.number

abbrev pub decreases-loop-at : goal.decreases-loop-at
decreases-loop-at l = length l.file - l.at

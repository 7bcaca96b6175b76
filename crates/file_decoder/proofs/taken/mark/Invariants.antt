-- `mark` takes the members one after the other. The invariant: what is left is still to be marked.
use Rattle.std.proofs.Common.{◌≡◌, length, drop}
use Rattle.spec_file.specs.Frame.{pairs}
use Rattle.file_decoder.specs.Held.{marked}
use Rattle.file_decoder.proofs.taken.mark.Given as goal

abbrev pub invariant-loop-j : goal.invariant-loop-j
invariant-loop-j l = (length l.c ≡ 6) × (marked l.g (drop 1 (pairs l.line)) l.initial.c ≡ marked l.g (drop l.j (pairs l.line)) l.c)

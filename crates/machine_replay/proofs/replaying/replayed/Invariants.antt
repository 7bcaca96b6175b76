-- `replayed` takes one byte after the other. The invariant: what has been done and what is left make the answer.
use Rattle.std.proofs.Common.{◌≡◌}
use Rattle.spec_file.specs.Program.{Program, initial}
use Rattle.machine.specs.Held.{Loaded}
use Rattle.machine_replay.proofs.HeldReplay.{Progress}
use Rattle.machine_replay.proofs.replaying.replayed.Given as goal

abbrev pub invariant-loop-k : goal.invariant-loop-k
invariant-loop-k l = (p : Program) → Loaded l.program.code l.program.lengths l.program.threads p → l.initial.m.memory ≡ initial p → Progress l.program.code l.program.lengths p l.schedule l.m l.log l.made l.k

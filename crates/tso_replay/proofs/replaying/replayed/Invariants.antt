-- `replayed` takes one byte after the other. The invariant: what has been done and what is left make the answer.
use Rattle.std.proofs.Common.{◌≡◌, ◌≤◌}
use Rattle.spec_file.specs.Program.{Program}
use Rattle.spec_file.specs.WellFormed.{all_accesses}
use Rattle.machine.specs.Held.{Loaded}
use Rattle.spec_tso.specs.State.{start}
use Rattle.tso_machine.specs.Held.{Holds}
use Rattle.tso_replay.proofs.HeldReplay.{Progress}
use Rattle.tso_replay.proofs.replaying.replayed.Given as goal

abbrev pub invariant-loop-b : goal.invariant-loop-b
invariant-loop-b l =
    (l.run.steps ≡ l.b-index) × ((p : Program) → Loaded l.program.code l.program.lengths l.program.threads p → all_accesses p.threads ≤ 16 → Holds l.program.code l.program.lengths l.initial.run.machine (start p) → Progress l.program.code l.program.lengths p l.schedule l.run)

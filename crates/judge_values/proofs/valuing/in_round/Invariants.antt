-- `in_round` meets one access after the other. The invariant: those before the next are met.
use Rattle.std.proofs.Common.{◌≡◌, length}
use Rattle.spec_file.specs.Program.{Program}
use Rattle.machine.specs.Held.{Loaded}
use Rattle.judge_values.specs.HeldRounds.{Opened}
use Rattle.judge_values.proofs.HeldRoundLoop.{Progress}
use Rattle.judge_values.proofs.valuing.in_round.Given as goal

abbrev pub invariant-loop-k : goal.invariant-loop-k
invariant-loop-k l =
    (length l.places ≡ 96) × (length l.left ≡ 96) × ((p : Program) → Loaded l.program.code l.program.lengths l.program.threads p → Opened l.program.code l.program.lengths p l.opened → Progress l.program.code l.program.lengths p l.values l.thread l.k l.places l.left)

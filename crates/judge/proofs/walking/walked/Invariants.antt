-- `walked` takes the chosen thread again and again. The invariant: what has been walked and what is left make the walk.
use Rattle.std.proofs.Common.{ℕ, ◌≤◌, ◌≡◌, length, get_or}
use Rattle.spec_file.specs.Program.{Program, initial}
use Rattle.spec_sc.specs.Graph.{Graph}
use Rattle.judge_next.specs.HeldWalk.{Given}
use Rattle.judge.proofs.WalkLoop.{Progress}
use Rattle.judge.proofs.walking.walked.Given as goal

abbrev pub invariant-loop-k : goal.invariant-loop-k
invariant-loop-k it =
    (length it.made.pairs ≡ 576) × (length it.made.counts ≡ 8) × (length it.schedule ≡ 24) × ((l : ℕ) → get_or it.made.counts l 0 ≤ it.k)
    × ((p : Program) (g : Graph) → Given it.program.code it.program.lengths it.program.threads it.pairs it.places p g → it.initial.machine.memory ≡ initial p
    → Progress it.program.code it.program.lengths p g it.machine it.made.pairs it.made.counts it.schedule it.k)

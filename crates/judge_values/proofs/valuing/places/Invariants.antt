-- `places` makes a round fewer than the program has accesses, or fewer still where one changes no value. The invariant: the table holds the values of the rounds made.
use Rattle.std.proofs.Common.{ℕ, ◌≤◌, ◌-◌, ◌≡◌, List, max}
use Rattle.spec_file.specs.Program.{Program, initial}
use Rattle.spec_sc.specs.State.{Event}
use Rattle.spec_sc.specs.Graph.{Graph}
use Rattle.machine.specs.Held.{Loaded}
use Rattle.spec_judge.proofs.RoundValues.{values}
use Rattle.spec_judge.specs.Reading.{parsed, read_graph}
use Rattle.graph_reader.specs.Held.{Tabled}
use Rattle.judge_values.specs.HeldRounds.{values_in}
use Rattle.spec_judge.proofs.Readable.{Named}
use Rattle.judge_values.proofs.valuing.places.Given as goal

abbrev pub invariant-loop-k : goal.invariant-loop-k
invariant-loop-k l =
    (l.k ≤ max 1 l.accesses) × ((p : Program) (text counts : List ℕ) (g : Graph) → Loaded l.program.code l.program.lengths l.program.threads p → l.program.starting ≡ initial p → read_graph l.program.threads text ≡ parsed g → Tabled l.pairs counts g →
    (e : Event) → Named l.program.threads e → values_in l.vs e ≡ values p g (l.k - 1) e)

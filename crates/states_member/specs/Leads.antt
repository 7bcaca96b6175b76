-- The member number i of what is found behind a prefix, by the next step that the code chooses.
use Rattle.std.specs.Prelude.{ℕ, ◌+◌, ◌≡◌, false, [], ◌∷◌, ◌++◌, Option, Some, None}
use Rattle.std.proofs.Math.Option.{none}
use Rattle.spec_file.specs.Program.{Program}
use Rattle.spec_schedules.specs.Order.{Schedule}
use Rattle.theory_sc.specs.Search.{found_behind}
use Rattle.theory_states.specs.Kth.{kth}
use Rattle.states_member.specs.declared.choosing.Choice.{Choice}

-- a step is chosen: behind it, the member number i has the number given; none is: there are not so many
abbrev pub Leads : Program → ℕ → Schedule → ℕ → Option Choice → Type 0
Leads p steps v i (Some r) = kth i (found_behind false p steps none v) ≡ kth r.index (found_behind false p (steps + 1) none (v ++ (r.step ∷ [])))
Leads p steps v i None = kth i (found_behind false p steps none v) ≡ none

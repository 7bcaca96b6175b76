-- WHAT A TABLE SAYS WHILE OUTCOMES ARE LOOKED FOR under total store order: behind a key of p that is marked no outcome is new.
use Rattle.std.specs.Prelude.{ℕ, ◌≡◌, List, drop}
use Rattle.std.proofs.Math.Option.{some}
use Rattle.spec_file.specs.Program.{Program}
use Rattle.table.specs.Places.{said}
use Rattle.theory_tso_outcomes.specs.Passing.{NonePasses}
use Rattle.states_outcomes.specs.declared.known.Frame.{Frame}
use Rattle.states_outcomes.specs.Rows.{is_new}

abbrev pub Swept : Program → Frame → List ℕ → List ℕ → Type 0
Swept p f rows m = NonePasses (is_new rows f.known) p f.width (λ k c. said f.slots 0 (drop f.cut m) k ≡ some c)

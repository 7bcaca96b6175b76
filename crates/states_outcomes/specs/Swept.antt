-- WHAT A TABLE SAYS WHILE OUTCOMES ARE LOOKED FOR: behind a key of p that is marked no outcome is new. The table stands behind the known outcomes,
-- which a walk leaves as they are.
use Rattle.std.specs.Prelude.{ℕ, ◌≡◌, List, length, take, drop}
use Rattle.std.proofs.Math.Option.{some}
use Rattle.spec_file.specs.Program.{Program}
use Rattle.table.specs.Places.{said}
use Rattle.theory_outcomes.specs.Passing.{NonePasses}
use Rattle.states_outcomes.specs.declared.known.Frame.{Frame}
use Rattle.states_outcomes.specs.Rows.{is_new}

abbrev pub Swept : Program → Frame → List ℕ → List ℕ → Type 0
Swept p f rows m = NonePasses (is_new rows f.known) p f.width (λ k c. said f.slots 0 (drop f.cut m) k ≡ some c)

-- behind the first so many words the table, of so many slots, says nothing
abbrev pub Silent : ℕ → ℕ → List ℕ → Type 0
Silent slots cut m = (k c : List ℕ) → said slots 0 (drop cut m) k ≡ some c → ⊥

-- as many words, and the first so many as they were
abbrev pub Kept : ℕ → List ℕ → List ℕ → Type 0
Kept cut m m' = (length m' ≡ length m) × (take cut m' ≡ take cut m)

-- A table that says nothing says nothing false.
use Prim.Native.Nat.{ℕ}
use mathlib.Core.List.{List}
use Rattle.spec_file.specs.Program.{Program}
use Rattle.theory_outcomes.proofs.Passing.{passes_nothing}
use Rattle.states_outcomes.specs.declared.known.Frame.{Frame}
use Rattle.states_outcomes.specs.Rows.{is_new}
use Rattle.states_outcomes.specs.Swept.{Swept, Silent}

-- where nothing is said, nothing false is
pub silent_swept : (p : Program) (f : Frame) (rows m : List ℕ) → Silent f.slots f.cut m → Swept p f rows m
silent_swept p f rows m silent = passes_nothing p (is_new rows f.known) f.width _ silent

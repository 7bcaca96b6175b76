-- WHAT A TABLE SAYS WHILE OUTCOMES ARE LOOKED FOR, and how wide its keys are, under the memory model that the code's number stands for.
use Rattle.std.specs.Prelude.{ℕ, ◌≤◌, List}
use Rattle.spec_file.specs.Program.{Program}
use Rattle.listing_model.specs.declared.memory.Model.{Model}
use Rattle.listing_model.specs.declared.memory.Model.TheVariants.{Sequential, TotalStoreOrder}
use Rattle.theory_sc_key.specs.Key as ScKey
use Rattle.theory_tso_key.specs.Words as TsoKey
use Rattle.states_outcomes.specs.declared.known.Frame.{Frame}
use Rattle.states_outcomes.specs.Swept as ScMarks
use Rattle.tso_outcomes.specs.Swept as TsoMarks

-- keys of so many words are enough for every position of the search, and no more than a walk takes
abbrev pub Wide : Model → Program → ℕ → Type 0
Wide Sequential p n = (n ≤ 18) × ScKey.Wide n p
Wide TotalStoreOrder p n = (n ≤ 27) × TsoKey.Wide n p

-- behind a key of p that is marked no outcome is new
abbrev pub Marks : Model → Program → Frame → List ℕ → List ℕ → Type 0
Marks Sequential p f rows m = ScMarks.Swept p f rows m
Marks TotalStoreOrder p f rows m = TsoMarks.Swept p f rows m

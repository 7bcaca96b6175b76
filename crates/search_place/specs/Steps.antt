-- Steps and accesses as the code knows them.
use Rattle.std.specs.Prelude.{ℕ, List}
use Rattle.file_rows.specs.Rows.{instruction_at}
use Rattle.machine_access.specs.CarriedOut.{access_of}
use Rattle.spec_sc.specs.Actions.{Action}
use Rattle.search_place.specs.declared.lateness.Step.{Step}

-- a step as an action
abbrev pub action_of : Step → Action
action_of a = record { thread = a.thread; location = a.location; wrote = a.wrote }

-- the access in a row as one, of whichever thread
abbrev pub accessing_at : List ℕ → ℕ → List ℕ → List ℕ → Action
accessing_at code row registers memory =
    let a = access_of (instruction_at code row) registers memory in
    record { thread = 0; location = a.location; wrote = a.writes }

-- What the walk leaves, and the judge's answer as the code hands it over. For the judge's own functions.
use Rattle.std.specs.Prelude.{ℕ, ◌<◌, ◌≤◌, ◌≡◌, List, length, get_or, take, Some, None}
use Rattle.std.specs.Prelude as Rust
use Rattle.std.proofs.Math.Option.{Option, none, some}
use Rattle.spec_file.specs.Program.{Program}
use Rattle.spec_schedules.specs.Order.{Schedule}
use Rattle.spec_schedules.specs.System.{Allowed}
use Rattle.spec_sc.specs.State.{SC, start}
use Rattle.spec_sc.specs.Graph.{Graph, graph_of, end_of}
use Rattle.machine.specs.Held.{Holds}
use Rattle.listing_cursor.specs.declared.steps.Steps.{Steps}
use Rattle.judge.specs.declared.walking.Walk.{Walk}
use Rattle.spec_judge.proofs.Walk.{walk}
use Rattle.graph_reader.specs.Held.{Tabled}

-- the walk, and the state and the graph behind it
pub record Walked (code lengths : List ℕ) (p : Program) (g : Graph) (r : Walk) : Type 0 where
  pub steps : r.steps ≡ length (walk p g)
  pub most : r.steps ≤ 24
  pub schedule : (k : ℕ) → k < r.steps → get_or r.schedule k 0 ≡ get_or (walk p g) k 0
  pub allowed : Allowed SC (start p) (walk p g)
  pub holds : Holds code lengths r.machine (end_of p (walk p g))
  pub made : Tabled r.made.pairs r.made.counts (graph_of (end_of p (walk p g)))
  pub few : (l : ℕ) → get_or r.made.counts l 0 ≤ 24

-- what the walk found: a schedule in fixed memory, or none
abbrev pub JudgedAs : Rust.Option (Steps 24) → Option Schedule → Type 0
JudgedAs (Some s) o = (o ≡ some (take s.steps s.schedule)) × (s.steps ≤ 24)
JudgedAs None o = o ≡ none

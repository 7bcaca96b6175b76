-- The graph of a state.
use Prim.Native.Nat.{ℕ}
use mathlib.Core.List.{List}
use Rattle.spec_sc.specs.State.{Event}
use Rattle.spec_sc.specs.Graph.{Graph}

-- the graph of these reads and these writes
abbrev pub graph_with : List (List (ℕ × Event)) → List (List Event) → Graph
graph_with rs ws = record { reads = rs; writes = ws }

-- How the judge finds the least schedule. It walks on the machine itself, always with the least thread whose next access the graph allows, and in
-- the end compares the graph that it made with the one that it was given. Nothing promised rests on this: Judged shows that it answers yes
-- exactly to consistent graphs, and with the least schedule.
use Prim.Native.Nat.{ℕ}
use mathlib.Core.Bool.{Bool, true, false, not, ◌&&◌}
use mathlib.Core.Option.{Option, none, some}
use mathlib.Core.List.{List, reverse}
use lib.Dec.{eqb, ltb}
use lib.ListN.{length, get_or}
use Rattle.spec_file.specs.Program.{Program}
use Rattle.spec_schedules.specs.Lists.{any, all, range}
use Rattle.spec_schedules.specs.Order.{Schedule}
use Rattle.spec_schedules.specs.System.{ended}
use Rattle.spec_schedules.specs.Greedy.{greedy}
use Rattle.spec_sc.specs.Local.{Local, place_of, takes, puts}
use Rattle.spec_sc.specs.State.{Event, initial_write, Cell, State, thread_of, cell_of, latest, enabled, SC, start}
use Rattle.spec_sc.specs.Graph.{Graph, graph_of, end_of}
use Rattle.spec_judge.specs.Consistent.{row_of, order_of, location_of}
use Rattle.spec_sc.specs.Same.{same_event, same_read}
use Rattle.spec_file.specs.Lists.{same_list}
use Rattle.spec_judge.proofs.RoundValues.{final_values}

-- the read (u, r.0) of source r .1 is another than e, takes from s at location l and is not yet done; `place` says where each read goes
unfoldable pub waits : (Event → ℕ) → State → ℕ → Event → Event → ℕ → ℕ × Event → Bool
waits place σ l s e u r = same_event r.1 s && (eqb (place (u, r.0)) l && (not (same_event (u, r.0) e) && not (ltb r.0 (thread_of σ u).history.done)))

unfoldable pub none_waits : Graph → (Event → ℕ) → State → ℕ → Event → Event → Bool
none_waits g place σ l s e = all (λ u. all (λ r. not (waits place σ l s e u r)) (row_of g u)) (range 0 (length g.reads))

-- the write of this list, whose last stands first, that comes when n have come; the initial write, which no thread does, when all have
unfoldable pub next_write : List Event → ℕ → Event
next_write ws n = get_or (reverse ws) n initial_write

-- if the event e reads, the graph gives it the last write of this cell, and the table this location
unfoldable pub read_fits : Graph → (Event → ℕ) → Event → Local → Cell → Bool
read_fits g place e h c = elim (takes h) [
  | true ↦ any (λ r. same_read r (e.1, latest c.writes)) (row_of g e.0) && eqb (place e) (place_of h)
  | false ↦ true
]

-- if it writes, it is its turn, and no other read still waits for the last write
unfoldable pub write_fits : Graph → (Event → ℕ) → State → Event → ℕ → Cell → Option ℕ → Bool
write_fits g place σ e l c none = true
write_fits g place σ e l c (some x) = same_event (next_write (order_of g l) (length c.writes)) e && none_waits g place σ l (latest c.writes) e

-- thread t may step, and the graph allows its next access
unfoldable pub fits : Graph → (Event → ℕ) → State → ℕ → Bool
fits g place σ t =
    let h = thread_of σ t in
    let l = place_of h.local in
    let c = cell_of σ l in
    let e : Event = (t, h.history.done) in
    enabled σ t && (read_fits g place e h.local c && write_fits g place σ e l c (puts h.local c.value))

-- a file has at most 24 accesses: 24 steps are enough
unfoldable pub walk : Program → Graph → Schedule
walk p g = greedy SC (fits g (location_of p (final_values p g))) 24 (start p)

unfoldable pub same_graph : Graph → Graph → Bool
same_graph g h = same_list (same_list same_read) g.reads h.reads && same_list (same_list same_event) g.writes h.writes

-- yes with the schedule walked, if all threads have ended with this graph
unfoldable pub judge : Program → Graph → Option Schedule
judge p g =
    let s = walk p g in
    let σ = end_of p s in
    elim (ended SC σ && same_graph (graph_of σ) g) [ true ↦ some s | false ↦ none ]

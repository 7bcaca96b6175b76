-- Graphs judged by computing: document 01's two, and others that are cyclic, not made by the program, or made by several schedules.
use Prim.Native.Nat.{ℕ}
use mathlib.Core.Path.{◌≡◌, refl}
use mathlib.Core.Bool.{Bool, true, false}
use mathlib.Core.Option.{Option, none, some}
use mathlib.Core.List.{List, [], ◌∷◌, ◌++◌}
use lib.Dec.{eqb}
use Rattle.spec_file.specs.Program.{Program, zeros}
use Rattle.spec_file.specs.Frames.{test}
use Rattle.spec_file.specs.WellFormed.{accesses, all_accesses}
use Rattle.spec_file.specs.declared.instruction.Instruction.{Instruction}
use Rattle.spec_file.specs.declared.instruction.Operand.TheVariants.{Constant, Register}
use Rattle.spec_file.specs.declared.instruction.Access.TheVariants.{Store, Load, FetchAdd, CompareSwap}
use Rattle.spec_file.specs.declared.instruction.Comparison.TheVariants.{Equal}
use Rattle.spec_file.specs.declared.instruction.Own.TheVariants.{AddAssign, SkipUnless, Assert}
use Rattle.spec_file.specs.declared.instruction.Instruction.TheVariants.{Memory, Alone}
use Rattle.spec_schedules.specs.Lists.{range, any, all, find}
use Rattle.spec_schedules.specs.Order.{Schedule}
use Rattle.spec_schedules.specs.Fulls.{fronts, branch, fulls_from, fulls}
use Rattle.spec_schedules.specs.Greedy.{greedy}
use Rattle.spec_sc.specs.State.{Event, initial_write, SC, start, size, accesses_left}
use Rattle.spec_sc.specs.Graph.{Graph, graph}
use Rattle.spec_sc.proofs.Examples.{seen}
use Rattle.spec_judge.specs.Consistent.{alone}
use Rattle.spec_sc.specs.Same.{same_event, same_read}
use Rattle.spec_file.specs.Lists.{same_list}
use Rattle.spec_judge.proofs.RoundValues.{source_in, or_zero, left_by, next_round, values}
use Rattle.spec_judge.proofs.Walk.{waits, none_waits, next_write, read_fits, write_fits, fits, walk, same_graph, judge}

-- what a proof names on its `unfolding` line to compute with the judge
unfoldable pub judging : Program → Graph → Option Schedule
unfolding seen accesses all_accesses range any all find greedy alone same_event same_read source_in or_zero left_by next_round values waits none_waits next_write read_fits write_fits fits walk same_list same_graph judge
judging p g = judge p g

-- threads of which none are declared alike, on a memory of zeros
abbrev pub threads_of : List (List Instruction) → Program
threads_of code = record { threads = code; groups = []; starting = zeros }

-- reads by thread, and the writes of locations 0 and 1, each with the last first
abbrev pub graph_with : List (List (ℕ × Event)) → List Event → List Event → Graph
graph_with rs a b = record { reads = rs; writes = a ∷ b ∷ [] ∷ [] ∷ [] ∷ [] ∷ [] ∷ [] ∷ [] }

unfoldable pub same_answer : Option Schedule → Option Schedule → Bool
same_answer none none = true
same_answer none (some s) = false
same_answer (some s) none = false
same_answer (some s) (some r) = same_list eqb s r

pub record Case : Type 0 where
  pub program : Program
  pub graph : Graph
  pub answer : Option Schedule

unfoldable pub right : Case → Bool
right c = same_answer (judge c.program c.graph) c.answer

-- each thread stores at a location and loads the other's
abbrev pub buffering : Program
buffering = threads_of ((Memory (Store 0 (Constant 1)) ∷ Memory (Load 0 1) ∷ []) ∷ (Memory (Store 1 (Constant 1)) ∷ Memory (Load 0 0) ∷ []) ∷ [])

abbrev pub neither_seen : Graph
neither_seen = graph_with (((1, initial_write) ∷ []) ∷ ((1, initial_write) ∷ []) ∷ []) ((0, 0) ∷ []) ((1, 0) ∷ [])

abbrev pub first_seen : Graph
first_seen = graph_with (((1, initial_write) ∷ []) ∷ ((1, (0, 0)) ∷ []) ∷ []) ((0, 0) ∷ []) ((1, 0) ∷ [])

abbrev pub two_adds : Program
two_adds = threads_of ((Memory (FetchAdd 0 0 (Constant 1)) ∷ []) ∷ (Memory (FetchAdd 0 0 (Constant 1)) ∷ []) ∷ [])

-- the first add reads from itself
abbrev pub selfish : Graph
selfish = graph_with (((0, (0, 0)) ∷ []) ∷ ((0, (0, 0)) ∷ []) ∷ []) ((1, 0) ∷ (0, 0) ∷ []) []

abbrev two_swaps : Program
two_swaps = threads_of ((Memory (CompareSwap 0 0 (Constant 0) (Constant 1)) ∷ []) ∷ (Memory (CompareSwap 0 0 (Constant 0) (Constant 1)) ∷ []) ∷ [])

-- each thread stores at the other's location what it loaded
abbrev copies : Program
copies = threads_of ((Memory (Load 0 0) ∷ Memory (Store 1 (Register 0)) ∷ []) ∷ (Memory (Load 0 1) ∷ Memory (Store 0 (Register 0)) ∷ []) ∷ [])

-- the read of location 0 comes behind another: only its place tells that the store must wait for it
abbrev pub behind : Program
behind = threads_of ((Memory (Store 0 (Constant 1)) ∷ []) ∷ (Memory (Load 0 1) ∷ Memory (Load 0 0) ∷ []) ∷ [])

-- the second read goes to location 0 if the first one found 0
abbrev choosing : Program
choosing = threads_of ((Memory (Store 0 (Constant 1)) ∷ []) ∷ (Memory (Load 0 1) ∷ Alone (SkipUnless (test Equal 0 (Constant 0)) 1) ∷ Memory (Load 1 0) ∷ Memory (Load 2 2) ∷ []) ∷ [])

-- a compare and swap of 1 to 2 and a load, at location 0, on a memory that starts with 1 there
abbrev pub sentinel : Program
sentinel = record {
  threads = (Memory (CompareSwap 0 0 (Constant 1) (Constant 2)) ∷ []) ∷ (Memory (Load 0 0) ∷ []) ∷ [];
  groups = [];
  starting = 1 ∷ 0 ∷ 0 ∷ 0 ∷ 0 ∷ 0 ∷ 0 ∷ 0 ∷ [];
}

-- both read from the initial write, and the compare and swap writes
abbrev pub both_initial : Graph
both_initial = graph_with (((0, initial_write) ∷ []) ∷ ((0, initial_write) ∷ []) ∷ []) ((0, 0) ∷ []) []

pub cases : List Case
cases =
    record { program = buffering; graph = neither_seen; answer = none } ∷
    record { program = buffering; graph = first_seen; answer = some (0 ∷ 0 ∷ 1 ∷ 1 ∷ []) } ∷
    -- fetch and adds: one after the other; both from the initial write; each from the other; from itself; coherence the other way round
    record { program = two_adds; graph = graph_with (((0, initial_write) ∷ []) ∷ ((0, (0, 0)) ∷ []) ∷ []) ((1, 0) ∷ (0, 0) ∷ []) []; answer = some (0 ∷ 1 ∷ []) } ∷
    record { program = two_adds; graph = graph_with (((0, (1, 0)) ∷ []) ∷ ((0, initial_write) ∷ []) ∷ []) ((0, 0) ∷ (1, 0) ∷ []) []; answer = some (1 ∷ 0 ∷ []) } ∷
    record { program = two_adds; graph = graph_with (((0, initial_write) ∷ []) ∷ ((0, initial_write) ∷ []) ∷ []) ((1, 0) ∷ (0, 0) ∷ []) []; answer = none } ∷
    record { program = two_adds; graph = graph_with (((0, (1, 0)) ∷ []) ∷ ((0, (0, 0)) ∷ []) ∷ []) ((1, 0) ∷ (0, 0) ∷ []) []; answer = none } ∷
    record { program = two_adds; graph = selfish; answer = none } ∷
    record { program = two_adds; graph = graph_with (((0, initial_write) ∷ []) ∷ ((0, (0, 0)) ∷ []) ∷ []) ((0, 0) ∷ (1, 0) ∷ []) []; answer = none } ∷
    -- a compare and swap that fails only reads: its write in a `41` line is too many
    record { program = two_swaps; graph = graph_with (((0, initial_write) ∷ []) ∷ ((0, (0, 0)) ∷ []) ∷ []) ((0, 0) ∷ []) []; answer = some (0 ∷ 1 ∷ []) } ∷
    record { program = two_swaps; graph = graph_with (((0, initial_write) ∷ []) ∷ ((0, (0, 0)) ∷ []) ∷ []) ((1, 0) ∷ (0, 0) ∷ []) []; answer = none } ∷
    -- values that depend on themselves in a circle
    record { program = copies; graph = graph_with (((0, (1, 1)) ∷ []) ∷ ((0, (0, 1)) ∷ []) ∷ []) ((1, 1) ∷ []) ((0, 1) ∷ []); answer = none } ∷
    record { program = copies; graph = graph_with (((0, (1, 1)) ∷ []) ∷ ((0, initial_write) ∷ []) ∷ []) ((1, 1) ∷ []) ((0, 1) ∷ []); answer = some (1 ∷ 1 ∷ 0 ∷ 0 ∷ []) } ∷
    -- initial reads of two locations; a read without its line; a source elsewhere; a line of a store; a write that no thread makes
    record { program = behind; graph = graph_with ([] ∷ ((1, initial_write) ∷ (0, initial_write) ∷ []) ∷ []) ((0, 0) ∷ []) []; answer = some (1 ∷ 1 ∷ 0 ∷ []) } ∷
    record { program = behind; graph = graph_with ([] ∷ ((1, (0, 0)) ∷ (0, initial_write) ∷ []) ∷ []) ((0, 0) ∷ []) []; answer = some (0 ∷ 1 ∷ 1 ∷ []) } ∷
    record { program = behind; graph = graph_with ([] ∷ ((1, (0, 0)) ∷ []) ∷ []) ((0, 0) ∷ []) []; answer = none } ∷
    record { program = behind; graph = graph_with ([] ∷ ((1, (0, 0)) ∷ (0, (0, 0)) ∷ []) ∷ []) ((0, 0) ∷ []) []; answer = none } ∷
    record { program = behind; graph = graph_with (((0, initial_write) ∷ []) ∷ ((1, initial_write) ∷ (0, initial_write) ∷ []) ∷ []) ((0, 0) ∷ []) []; answer = none } ∷
    record { program = behind; graph = graph_with ([] ∷ ((1, initial_write) ∷ (0, initial_write) ∷ []) ∷ []) ((1, 7) ∷ (0, 0) ∷ []) []; answer = none } ∷
    -- which location is read depends on a value
    record { program = choosing; graph = graph_with ([] ∷ ((2, initial_write) ∷ (1, initial_write) ∷ (0, initial_write) ∷ []) ∷ []) ((0, 0) ∷ []) []; answer = some (1 ∷ 1 ∷ 0 ∷ 1 ∷ []) } ∷
    -- the initial write carries 1: the compare and swap succeeds, so that its write must stand in the graph
    record { program = sentinel; graph = both_initial; answer = some (1 ∷ 0 ∷ []) } ∷
    record { program = sentinel; graph = graph_with (((0, initial_write) ∷ []) ∷ ((0, initial_write) ∷ []) ∷ []) [] []; answer = none } ∷
    -- the write stands at the wrong location; no event at all
    record { program = behind; graph = graph_with ([] ∷ ((1, initial_write) ∷ (0, initial_write) ∷ []) ∷ []) [] ((0, 0) ∷ []); answer = none } ∷
    record { program = threads_of ([] ∷ []); graph = graph_with ([] ∷ []) [] []; answer = some [] } ∷
    []

pub all_right : all right cases ≡ true
unfolding judging right same_answer cases
all_right = refl

-- the judge against the list of all full schedules: for the reads of one full schedule with the writes of another, the first with this graph
unfoldable pub first_with : Program → Graph → List Schedule → Option Schedule
first_with p g [] = none
first_with p g (s ∷ ss) = elim (same_graph (graph p s) g) [ true ↦ some s | false ↦ first_with p g ss ]

unfoldable pub mixed : Graph → Graph → Graph
mixed a b = record { reads = a.reads; writes = b.writes }

unfoldable pub agrees : Program → Bool
unfolding fronts branch fulls_from fulls size accesses_left accesses
agrees p =
    let ss = fulls SC (start p) in
    all (λ s. all (λ r. let g = mixed (graph p s) (graph p r) in same_answer (judge p g) (first_with p g ss)) ss) ss

abbrev increment : List Instruction
increment = Memory (Load 0 0) ∷ Alone (AddAssign 0 (Constant 1)) ∷ Memory (Store 0 (Register 0)) ∷ []

abbrev small : List Program
small =
    buffering ∷
    two_adds ∷
    two_swaps ∷
    copies ∷
    behind ∷
    threads_of (increment ∷ increment ∷ []) ∷
    threads_of ((Memory (Load 0 0) ∷ Alone (Assert (test Equal 0 (Constant 0))) ∷ []) ∷ (Memory (Store 0 (Constant 1)) ∷ []) ∷ []) ∷
    threads_of ((Memory (Store 0 (Constant 1)) ∷ []) ∷ (Memory (Load 0 0) ∷ []) ∷ (Memory (Load 0 0) ∷ []) ∷ []) ∷
    []

pub all_agree : all agrees small ≡ true
unfolding judging same_answer first_with mixed agrees
all_agree = refl

-- 24 accesses in one chain
abbrev four : List Instruction
four = Memory (FetchAdd 0 0 (Constant 1)) ∷ Memory (FetchAdd 0 0 (Constant 1)) ∷ Memory (FetchAdd 0 0 (Constant 1)) ∷ Memory (FetchAdd 0 0 (Constant 1)) ∷ []

abbrev chain : Program
chain = threads_of (four ∷ four ∷ four ∷ four ∷ four ∷ four ∷ [])

abbrev round : Schedule
round = 0 ∷ 1 ∷ 2 ∷ 3 ∷ 4 ∷ 5 ∷ []

abbrev rounds : Schedule
rounds = round ++ (round ++ (round ++ round))

pub chain_judged : same_answer (judge chain (graph chain rounds)) (some rounds) ≡ true
unfolding judging same_answer
chain_judged = refl

-- The definitions computed: schedules of small programs, what they leave in memory and the frames of their graphs.
use mathlib.Core.Path.{◌≡◌, refl}
use mathlib.Core.Bool.{true, false}
use mathlib.Core.List.{[], ◌∷◌}
use Rattle.spec_file.specs.Program.{Program, zeros}
use Rattle.spec_file.specs.WellFormed.{accesses}
use Rattle.spec_file.specs.declared.instruction.Operand.TheVariants.{Constant}
use Rattle.spec_file.specs.declared.instruction.Access.TheVariants.{Store, Load, FetchAdd}
use Rattle.spec_file.specs.declared.instruction.Instruction.TheVariants.{Memory}
use Rattle.spec_schedules.specs.Order.{Schedule}
use Rattle.spec_schedules.specs.System.{ended}
use Rattle.spec_schedules.specs.Computing.{computing}
use Rattle.spec_sc.specs.Text.{frames}
use Rattle.spec_sc.proofs.Examples.{Seen, seen}
use Rattle.spec_tso.specs.Queue.{newest, found_in, queued, at_once, is_empty, free, oldest_number, oldest_place, oldest_value, newer, movable}
use Rattle.spec_tso.specs.State.{idle, drained, start, unqueued, without_queues, no_thread, thread_of, cell_of, access_locks, first_locks, locked, finds, target, number_of, reaches, thread_behind, cell_behind, place, step_of, able, kind_of, owner_by, owner, byte_for, step, enabled, weight, size_of, size, TSO, fails, memory_of}
use Rattle.spec_tso.specs.Graph.{graph_of, end_of}

-- what a proof names on its `unfolding` line to compute with every definition of a run
unfoldable pub ran : Program → Schedule → Seen
unfolding computing seen accesses newest found_in queued at_once is_empty free oldest_number oldest_place oldest_value newer movable idle drained start unqueued without_queues no_thread thread_of cell_of access_locks first_locks locked finds target number_of reaches thread_behind cell_behind place step_of able kind_of owner_by owner byte_for step enabled weight size_of size fails memory_of graph_of
ran p s = let σ = end_of p s in record { full = ended TSO σ; fails = fails σ; memory = memory_of σ; frames = frames (graph_of σ) }

-- two stores and a load of one location: the load takes the newer pending store and reads from it; both then reach memory
forwarding : Program
forwarding = record { threads = (Memory (Store 0 (Constant 1)) ∷ Memory (Store 0 (Constant 2)) ∷ Memory (Load 0 0) ∷ []) ∷ []; groups = []; starting = zeros }

forwarded : ran forwarding (0 ∷ 0 ∷ 0 ∷ 16 ∷ 16 ∷ []) ≡ record {
  full = true;
  fails = false;
  memory = 2 ∷ 0 ∷ 0 ∷ 0 ∷ 0 ∷ 0 ∷ 0 ∷ 0 ∷ [];
  frames = (0x40 ∷ 0 ∷ 2 ∷ 0 ∷ 1 ∷ []) ∷ (0x41 ∷ 0 ∷ 0 ∷ 0 ∷ 0 ∷ 1 ∷ []) ∷ [];
}
unfolding ran forwarding
forwarded = refl

-- with a store pending the schedule is not full, though the thread has ended
not_full_yet : (ran forwarding (0 ∷ 0 ∷ 0 ∷ 16 ∷ [])).full ≡ false
unfolding ran forwarding
not_full_yet = refl

-- two stores to one location: coherence is the order of reaching memory, not that of the stores' own steps
racing : Program
racing = record { threads = (Memory (Store 0 (Constant 1)) ∷ []) ∷ (Memory (Store 0 (Constant 2)) ∷ []) ∷ []; groups = []; starting = zeros }

raced : ran racing (0 ∷ 1 ∷ 17 ∷ 16 ∷ []) ≡ record {
  full = true;
  fails = false;
  memory = 1 ∷ 0 ∷ 0 ∷ 0 ∷ 0 ∷ 0 ∷ 0 ∷ 0 ∷ [];
  frames = (0x41 ∷ 0 ∷ 1 ∷ 0 ∷ 0 ∷ 0 ∷ []) ∷ [];
}
unfolding ran racing
raced = refl

-- a fetch and add waits for an empty queue, also where the pending store is to another location
waiting : Program
waiting = record { threads = (Memory (Store 0 (Constant 1)) ∷ Memory (FetchAdd 0 1 (Constant 1)) ∷ []) ∷ []; groups = []; starting = zeros }

may_not_add : enabled (end_of waiting (0 ∷ [])) 0 ≡ false
unfolding ran waiting
may_not_add = refl

added : ran waiting (0 ∷ 16 ∷ 0 ∷ []) ≡ record {
  full = true;
  fails = false;
  memory = 1 ∷ 1 ∷ 0 ∷ 0 ∷ 0 ∷ 0 ∷ 0 ∷ 0 ∷ [];
  frames = (0x40 ∷ 0 ∷ 1 ∷ 255 ∷ 255 ∷ []) ∷ (0x41 ∷ 0 ∷ 0 ∷ 0 ∷ []) ∷ (0x41 ∷ 1 ∷ 0 ∷ 1 ∷ []) ∷ [];
}
unfolding ran waiting
added = refl

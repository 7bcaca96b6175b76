-- THE KEY OF A POSITION under total store order: the accesses and the moves that would come late (R1), the moves that would come far (R2 far), and for
-- each thread the set of those that it is near; how many instructions are left to each; the location and value of each pending store, oldest first; and
-- the values that matter, of live registers and of memory. The schedule, what was read, numbers of accesses and what failed are not in it.
use Rattle.std.specs.Prelude.{ℕ, List, ◌++◌, map}
use Rattle.spec_file.specs.Program.{Program}
use Rattle.spec_schedules.specs.Lists.{range, filter}
use Rattle.spec_schedules.specs.Order.{Schedule}
use Rattle.spec_sc.specs.State.{memory_of}
use Rattle.theory_sc.specs.Sets.{set_of}
use Rattle.theory_sc_key.specs.Key.{left_of, live_at, register_at}
use Rattle.spec_tso.specs.Queue.{Entry}
use Rattle.spec_tso.specs.State.{State, access, move, without_queues, thread_of}
use Rattle.theory_tso.specs.LateBytes.{bytes_of, late_at, far_at}
use Rattle.theory_tso_key.specs.Views.{waiting}
use Rattle.theory_tso_key.specs.Near.{near}

pub record Key : Type 0 where
  pub late_accesses : ℕ
  pub late_moves : ℕ
  pub far_moves : ℕ
  pub nearness : List ℕ
  pub left : List ℕ
  pub queues : List (List Entry)
  pub values : List ℕ

abbrev pub near_sets : Program → State → List ℕ
near_sets p σ = map (λ t. set_of (near p σ t) 6) (range 0 6)

-- of each of the six threads what is pending
abbrev pub queues_of : State → List (List Entry)
queues_of σ = map (λ t. waiting (thread_of σ t)) (range 0 6)

abbrev pub key_of : Program → Schedule → State → Key
key_of p v σ = record {
  late_accesses = bytes_of (late_at p v) access;
  late_moves = bytes_of (late_at p v) move;
  far_moves = bytes_of (far_at p v) move;
  nearness = near_sets p σ;
  left = left_of (without_queues σ);
  queues = queues_of σ;
  values = map (register_at (without_queues σ)) (filter (live_at (without_queues σ)) (range 0 24)) ++ memory_of (without_queues σ);
}

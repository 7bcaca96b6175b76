-- The definitions computed: graphs of small programs as frames and as text, and the least order of a run's steps.
use Prim.Native.Nat.{ℕ}
use mathlib.Core.Path.{◌≡◌, refl}
use mathlib.Core.Bool.{Bool, true, false}
use mathlib.Core.List.{List, [], ◌∷◌, map}
use Rattle.spec_file.specs.Program.{Program, initial, zeros}
use Rattle.spec_file.specs.Frames.{test}
use Rattle.spec_file.specs.declared.instruction.Operand.TheVariants.{Constant, Register}
use Rattle.spec_file.specs.declared.instruction.Access.TheVariants.{Store, Load, FetchAdd, CompareSwap}
use Rattle.spec_file.specs.declared.instruction.Comparison.TheVariants.{Equal, AtMost}
use Rattle.spec_file.specs.declared.instruction.Own.TheVariants.{Assign, AddAssign, SkipUnless, Assert}
use Rattle.spec_file.specs.declared.instruction.Instruction.TheVariants.{Memory, Alone}
use Rattle.spec_schedules.specs.Lists.{any, range}
use Rattle.spec_schedules.specs.Order.{Schedule}
use Rattle.spec_file.specs.Digit.{digit_of}
use Rattle.spec_file.specs.Text.{digits, text}
use Rattle.spec_schedules.specs.System.{run, none_enabled, ended}
use Rattle.spec_sc.specs.Signed.{signed, at_most}
use Rattle.spec_sc.specs.Local.{eval, sum32, access_place, access_takes, access_puts, access_sets, compare, holds, outcome, settle, begins_with_access, first_place, first_takes, first_puts, first_next, pending, place_of, takes, puts, next, begin}
use Rattle.spec_sc.specs.State.{initial_write, no_thread, fresh_cell, thread_of, cell_of, place, latest, noted, advanced, written, met, step, enabled, SC, opened, start, failed_of, fails, value_of, memory_of}
use Rattle.spec_sc.specs.Graph.{reads_of, writes_of, graph_of, graph, end_of}
use Rattle.spec_sc.specs.Replay.{refused, replay_from, replay}
use Rattle.spec_sc.specs.Text.{read_frame, read_frames, event_bytes, write_frame, write_frames, frames, text_of, graph_text}

-- whether the schedule is full (given that its bytes may step), whether it fails, memory at its end, its graph's frames
pub record Seen : Type 0 where
  pub full : Bool
  pub fails : Bool
  pub memory : List ℕ
  pub frames : List (List ℕ)

-- what a proof names on its `unfolding` line to compute with every definition of a run
unfoldable pub seen : Program → Schedule → Seen
unfolding eval sum32 access_place access_takes access_puts access_sets signed at_most compare holds outcome settle begins_with_access first_place first_takes first_puts first_next pending place_of takes puts next begin initial_write no_thread fresh_cell thread_of cell_of place latest noted advanced written met step enabled opened start failed_of fails value_of memory_of reads_of writes_of graph_of read_frame read_frames event_bytes write_frame write_frames frames run none_enabled ended any range initial
seen p s = let σ = end_of p s in record { full = ended SC σ; fails = fails σ; memory = memory_of σ; frames = frames (graph_of σ) }

-- a store of 1 beside two loads
unfoldable pub stores : Program
stores = record { threads = (Memory (Store 0 (Constant 1)) ∷ []) ∷ (Memory (Load 0 0) ∷ []) ∷ (Memory (Load 0 0) ∷ []) ∷ []; groups = (1 ∷ 2 ∷ []) ∷ []; starting = zeros }

between : seen stores (1 ∷ 0 ∷ 2 ∷ []) ≡ record {
  full = true;
  fails = false;
  memory = 1 ∷ 0 ∷ 0 ∷ 0 ∷ 0 ∷ 0 ∷ 0 ∷ 0 ∷ [];
  frames = (0x40 ∷ 1 ∷ 0 ∷ 255 ∷ 255 ∷ []) ∷ (0x40 ∷ 2 ∷ 0 ∷ 0 ∷ 0 ∷ []) ∷ (0x41 ∷ 0 ∷ 0 ∷ 0 ∷ []) ∷ [];
}
unfolding seen stores
between = refl

-- one thread: adding 1 to ffffffff gives 0; a compare and swap that fails writes nothing; the register read before it changes
wraps : Program
wraps = record {
  threads = (
      Alone (Assign 1 (Constant 0xffffffff)) ∷
      Alone (AddAssign 1 (Constant 1)) ∷
      Alone (Assert (test Equal 1 (Constant 0))) ∷
      Alone (Assign 1 (Constant 5)) ∷
      Alone (AddAssign 1 (Register 1)) ∷
      Alone (Assert (test Equal 1 (Constant 10))) ∷
      Memory (Store 3 (Constant 0xffffffff)) ∷
      Alone (Assign 0 (Constant 2)) ∷
      Memory (FetchAdd 0 3 (Register 0)) ∷
      Memory (CompareSwap 2 3 (Constant 9) (Constant 7)) ∷
      Alone (SkipUnless (test Equal 2 (Constant 5)) 1) ∷
      Memory (Store 3 (Constant 5)) ∷
      Alone (Assert (test Equal 2 (Constant 0))) ∷
      Memory (Load 0 0) ∷
      []
      ) ∷ [];
  groups = [];
  starting = zeros;
}

wrapped : seen wraps (0 ∷ 0 ∷ 0 ∷ []) ≡ record {
  full = true;
  fails = true;
  memory = 0 ∷ 0 ∷ 0 ∷ 1 ∷ 0 ∷ 0 ∷ 0 ∷ 0 ∷ [];
  frames = (0x40 ∷ 0 ∷ 1 ∷ 0 ∷ 0 ∷ []) ∷ (0x40 ∷ 0 ∷ 2 ∷ 0 ∷ 1 ∷ []) ∷ (0x41 ∷ 3 ∷ 0 ∷ 0 ∷ 0 ∷ 1 ∷ []) ∷ [];
}
unfolding seen wraps
wrapped = refl

-- one thread: minus 1 is at most 0 and not skipped, the greatest value is not at most the least and skips, and the assertion that it is fails
crossed : Program
crossed = record {
  threads = (
      Alone (Assign 0 (Constant 0xffffffff)) ∷
      Alone (SkipUnless (test AtMost 0 (Constant 0)) 1) ∷
      Memory (Store 0 (Constant 1)) ∷
      Alone (Assign 1 (Constant 0x80000000)) ∷
      Alone (Assert (test AtMost 1 (Register 0))) ∷
      Alone (Assign 0 (Constant 0x7fffffff)) ∷
      Alone (SkipUnless (test AtMost 0 (Register 1)) 1) ∷
      Memory (Store 0 (Constant 2)) ∷
      Memory (Store 1 (Constant 3)) ∷
      Alone (Assert (test AtMost 0 (Register 1))) ∷
      []
      ) ∷ [];
  groups = [];
  starting = zeros;
}

crossed_seen : seen crossed (0 ∷ 0 ∷ []) ≡ record {
  full = true;
  fails = true;
  memory = 1 ∷ 3 ∷ 0 ∷ 0 ∷ 0 ∷ 0 ∷ 0 ∷ 0 ∷ [];
  frames = (0x41 ∷ 0 ∷ 0 ∷ 0 ∷ []) ∷ (0x41 ∷ 1 ∷ 0 ∷ 1 ∷ []) ∷ [];
}
unfolding seen crossed
crossed_seen = refl

-- adding a constant zero and adding a register that holds zero only read; a compare and swap of 0 to 0 writes
adding_zero : Program
adding_zero = record {
  threads = (Memory (FetchAdd 0 0 (Constant 0)) ∷ []) ∷ (Memory (FetchAdd 0 0 (Register 1)) ∷ []) ∷ (Memory (CompareSwap 0 0 (Constant 0) (Constant 0)) ∷ []) ∷ [];
  groups = [];
  starting = zeros;
}

zero_reads : seen adding_zero (0 ∷ 1 ∷ 2 ∷ []) ≡ record {
  full = true;
  fails = false;
  memory = 0 ∷ 0 ∷ 0 ∷ 0 ∷ 0 ∷ 0 ∷ 0 ∷ 0 ∷ [];
  frames = (0x40 ∷ 0 ∷ 0 ∷ 255 ∷ 255 ∷ []) ∷ (0x40 ∷ 1 ∷ 0 ∷ 255 ∷ 255 ∷ []) ∷ (0x40 ∷ 2 ∷ 0 ∷ 255 ∷ 255 ∷ []) ∷ (0x41 ∷ 0 ∷ 2 ∷ 0 ∷ []) ∷ [];
}
unfolding seen adding_zero
zero_reads = refl

-- a store and a load in each of two threads, as text: `400001ffff`, `4001010000`, `41000000`, `41010100`, each line with its 0a
unfoldable pub pair : Program
pair = record { threads = (Memory (Store 0 (Constant 1)) ∷ Memory (Load 0 1) ∷ []) ∷ (Memory (Store 1 (Constant 1)) ∷ Memory (Load 0 0) ∷ []) ∷ []; groups = []; starting = zeros }

spelt : List ℕ
spelt =
    52 ∷ 48 ∷ 48 ∷ 48 ∷ 48 ∷ 49 ∷ 102 ∷ 102 ∷ 102 ∷ 102 ∷ 10 ∷
    52 ∷ 48 ∷ 48 ∷ 49 ∷ 48 ∷ 49 ∷ 48 ∷ 48 ∷ 48 ∷ 48 ∷ 10 ∷
    52 ∷ 49 ∷ 48 ∷ 48 ∷ 48 ∷ 48 ∷ 48 ∷ 48 ∷ 10 ∷
    52 ∷ 49 ∷ 48 ∷ 49 ∷ 48 ∷ 49 ∷ 48 ∷ 48 ∷ 10 ∷ []

pair_text : graph_text (graph pair (0 ∷ 0 ∷ 1 ∷ 1 ∷ [])) ≡ spelt
unfolding seen pair spelt text_of graph_text text digits digit_of
pair_text = refl

-- memory starts with ffffffff at location 3: a compare and swap that expects it succeeds and reads from the initial write, adding 2 wraps
filled : Program
filled = record {
  threads = (Memory (CompareSwap 0 3 (Constant 0xffffffff) (Constant 7)) ∷ []) ∷ (Memory (FetchAdd 0 3 (Constant 2)) ∷ []) ∷ [];
  groups = [];
  starting = 0 ∷ 5 ∷ 0 ∷ 0xffffffff ∷ 0 ∷ 0 ∷ 0 ∷ 0 ∷ [];
}

swapped : seen filled (0 ∷ 1 ∷ []) ≡ record {
  full = true;
  fails = false;
  memory = 0 ∷ 5 ∷ 0 ∷ 9 ∷ 0 ∷ 0 ∷ 0 ∷ 0 ∷ [];
  frames = (0x40 ∷ 0 ∷ 0 ∷ 255 ∷ 255 ∷ []) ∷ (0x40 ∷ 1 ∷ 0 ∷ 0 ∷ 0 ∷ []) ∷ (0x41 ∷ 3 ∷ 0 ∷ 0 ∷ 1 ∷ 0 ∷ []) ∷ [];
}
unfolding seen filled
swapped = refl

added : seen filled (1 ∷ 0 ∷ []) ≡ record {
  full = true;
  fails = false;
  memory = 0 ∷ 5 ∷ 0 ∷ 1 ∷ 0 ∷ 0 ∷ 0 ∷ 0 ∷ [];
  frames = (0x40 ∷ 0 ∷ 0 ∷ 1 ∷ 0 ∷ []) ∷ (0x40 ∷ 1 ∷ 0 ∷ 255 ∷ 255 ∷ []) ∷ (0x41 ∷ 3 ∷ 1 ∷ 0 ∷ []) ∷ [];
}
unfolding seen filled
added = refl

-- a byte that names no thread, one behind the end, and a schedule that is not full
refusals : map (replay pair) ((1 ∷ 2 ∷ []) ∷ (0 ∷ 0 ∷ 1 ∷ 1 ∷ 0 ∷ []) ∷ (0 ∷ 0 ∷ 1 ∷ []) ∷ (0 ∷ 9 ∷ []) ∷ []) ≡ refused 20 1 ∷ refused 20 4 ∷ refused 21 3 ∷ refused 20 1 ∷ []
unfolding seen pair replay replay_from
refusals = refl

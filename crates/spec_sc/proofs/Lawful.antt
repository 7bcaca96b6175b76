-- Sequential consistency is a lawful step system, from any state: each step lowers the number of accesses left. T0: a full schedule of a
-- well-formed program has at most 24 steps, and there are at most 6^24 of them, so that a count fits 64 bits.
use Prim.Native.Nat.{ℕ, zero, suc, ◌^◌, ◌<◌, ◌≤◌}
use mathlib.Core.Path.{◌≡◌}
use mathlib.Core.Bool.{true}
use mathlib.Core.List.{List, [], ◌∷◌, map}
use native.Mathlib.Omega.{arith}
use native.Mathlib.Nat.{not-suc-le-zero, le_of_suc-le-suc}
use native.Mathlib.Bridge.{le_by_compare, IsLe}
use lib.Dec.{ltb}
use lib.ListN.{length, get_or, set}
use Rattle.spec_file.specs.Program.{Program}
use Rattle.spec_file.specs.WellFormed.{WellFormed, accesses, all_accesses}
use Rattle.spec_file.specs.declared.instruction.Instruction.{Instruction}
use Rattle.spec_file.specs.Lists.{Ascends}
use Rattle.spec_schedules.specs.Lists.{range}
use Rattle.spec_schedules.specs.Order.{Schedule}
use Rattle.spec_schedules.specs.System.{Lawful}
use Rattle.spec_schedules.specs.Fulls.{fulls}
use Rattle.spec_schedules.proofs.Lists.{in_range_lem, range_ascends}
use Rattle.spec_schedules.proofs.Runs.{full_length}
use Rattle.spec_schedules.proofs.Fulls.{fulls_length}
use Rattle.spec_sc.specs.Local.{begin}
use Rattle.spec_sc.specs.State.{State, Thread, no_thread, thread_of, cell_of, place, advanced, step, enabled, accesses_left, size, SC, opened, start}
use Rattle.spec_sc.specs.Graph.{Full}
use Rattle.spec_sc.proofs.Access.{suffix_accesses, next_fewer, begin_law}
use Rattle.spec_sc.proofs.Steps.{enabled_small, enabled_pending, enabled_range}

set_fewer : (l : List Thread) (t : ℕ) (h d : Thread) → t < length l → accesses h.local.rest < accesses (get_or l t d).local.rest → accesses_left (set l t h) < accesses_left l
unfolding accesses_left
set_fewer [] t h d i e = absurd (not-suc-le-zero i)
set_fewer (x ∷ l) zero h d i e = omega arith
set_fewer (x ∷ l) (suc t) h d i e = omega (arith, set_fewer l t h d (le_of_suc-le-suc i) e)

pub falls : (σ : State) (t : ℕ) → enabled σ t ≡ true → size (step σ t) < size σ
unfolding size step thread_of advanced
falls σ t m = set_fewer σ.threads t _ no_thread (enabled_range σ t m) (next_fewer (thread_of σ t).local (cell_of σ (place σ t)).value (enabled_pending σ t m))

pub lawful : Lawful SC
lawful = record { named = λ σ t m. let h = enabled_small σ t m in in_range_lem 0 6 t (omega arith) (omega arith); falls = falls }

opened_left : (c : List (List Instruction)) → accesses_left (map opened c) ≤ all_accesses c
unfolding accesses_left all_accesses opened
opened_left [] = omega arith
opened_left (i ∷ c) = omega (arith, suffix_accesses (begin i).rest i (begin_law i).1, opened_left c)

-- no program has more accesses left than its code has
pub start_size : (p : Program) → size (start p) ≤ all_accesses p.threads
unfolding size start
start_size p = opened_left p.threads

pub start_24 : (p : Program) → WellFormed p → size (start p) ≤ 24
start_24 p w = omega (arith, start_size p, w.access_24)

-- the six names ascend
pub names_ascend : Ascends ltb SC.names
names_ascend = range_ascends 0 6

pub at_most_24 : (p : Program) → WellFormed p → (s : Schedule) → Full p s → length s ≤ 24
at_most_24 p w s f = omega (arith, full_length SC lawful (start p) s f, start_24 p w)

pub count_bound : (p : Program) → WellFormed p → length (fulls SC (start p)) ≤ 6 ^ 24
unfolding range
count_bound p w = fulls_length SC lawful (start p) 6 24 (omega arith) (omega arith) (start_24 p w)

pub fits_64_bits : 6 ^ 24 < 2 ^ 63
unfolding IsLe
fits_64_bits = le_by_compare (suc (6 ^ 24)) (2 ^ 63) tt

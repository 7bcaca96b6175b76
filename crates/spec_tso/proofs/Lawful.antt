-- Total store order is a lawful step system, from any state: an access takes two from the size and its store gives one back, a move takes one. So
-- a full schedule of a program with at most 16 accesses has at most 32 steps.
use Prim.Native.Nat.{ℕ, zero, suc, ◌+◌, ◌-◌, ◌<◌, ◌≤◌}
use mathlib.Core.Path.{◌≡◌, refl}
use mathlib.Core.Bool.{Bool, true, false, false≢true}
use mathlib.Core.Option.{Option, none, some}
use mathlib.Core.List.Memᴰ
use mathlib.Core.List.{List, [], ◌∷◌, map, Memᴰ}
use native.Mathlib.Omega.{arith}
use native.Mathlib.Nat.{not-suc-le-zero, le_of_suc-le-suc}
use borrow.Author.Tests.{lt-ltb}
use lib.Dec.{ltb}
use lib.ListN.{length, get_or, set, length-append}
use Rattle.spec_file.specs.Program.{Program}
use Rattle.spec_file.specs.WellFormed.{all_accesses}
use Rattle.spec_file.specs.Lists.{Ascends}
use Rattle.spec_schedules.specs.Lists.{range}
use Rattle.spec_schedules.specs.Order.{Schedule}
use Rattle.spec_schedules.specs.System.{Lawful}
use Rattle.spec_schedules.proofs.Lists.{in_range_lem, of_range, range_ascends, ascends_append}
use Rattle.spec_schedules.proofs.Runs.{full_length}
use Rattle.spec_sc.specs.Local.{place_of, puts}
use Rattle.spec_sc.specs.State as SC
use Rattle.spec_sc.specs.State.{Cell}
use Rattle.spec_sc.proofs.Lawful.{start_size}
use Rattle.spec_sc.proofs.Access.{next_fewer}
use Rattle.spec_tso.specs.Queue.{Entry, queued, newer, movable}
use Rattle.spec_tso.specs.State.{Thread, State, no_thread, thread_of, cell_of, locked, finds, thread_behind, place, step_of, able, kind_of, owner, step, enabled, weight, size_of, size, TSO, idle, drained, start, Kind, access, move}
use Rattle.spec_tso.specs.Graph.{Full}
use Rattle.spec_tso.proofs.Bytes.{ByteCase, of_access, of_move, byte_case}
use Rattle.spec_tso.proofs.Steps.{enabled_small, enabled_able, able_pending, able_movable, able_range}

queued_one : (b : Bool) (i l : ℕ) (o : Option ℕ) → length (queued b i l o) ≤ 1
unfolding queued
queued_one b i l none = omega arith
queued_one true i l (some v) = omega arith
queued_one false i l (some v) = omega arith

pub newer_fewer : (q : List Entry) (n : ℕ) → movable q n ≡ true → length (newer q) < length q
unfolding movable newer
newer_fewer [] n e = absurd (false≢true e)
newer_fewer (x ∷ q) n e = omega arith

lighter : (k : Kind) (t : ℕ) (h : Thread) (c : Cell) (n : ℕ) → able k h n ≡ true → weight (thread_behind k t h c) < weight h
unfolding thread_behind weight
lighter access t h c n e =
    let w = queued (locked h.local) h.history.done (place_of h.local) (puts h.local (finds t h c).value) in
    omega (
      arith,
      next_fewer h.local (finds t h c).value (able_pending h n e),
      length-append h.queue w,
      queued_one (locked h.local) h.history.done (place_of h.local) (puts h.local (finds t h c).value),
    )
lighter move t h c n e = omega (arith, newer_fewer h.queue n (able_movable h n e))

set_fewer : (l : List Thread) (t : ℕ) (h d : Thread) → t < length l → weight h < weight (get_or l t d) → size_of (set l t h) < size_of l
unfolding size_of
set_fewer [] t h d i e = absurd (not-suc-le-zero i)
set_fewer (x ∷ l) zero h d i e = omega arith
set_fewer (x ∷ l) (suc t) h d i e = omega (arith, set_fewer l t h d (le_of_suc-le-suc i) e)

step_of_fewer : (σ : State) (k : Kind) (t : ℕ) → able k (thread_of σ t) (length σ.cells) ≡ true → size (step_of σ k t) < size σ
unfolding size step_of thread_of
step_of_fewer σ k t e = set_fewer σ.threads t _ no_thread (able_range σ k t (length σ.cells) e) (lighter k t (thread_of σ t) (cell_of σ (place σ k t)) (length σ.cells) e)

pub falls : (σ : State) (b : ℕ) → enabled σ b ≡ true → size (step σ b) < size σ
unfolding step
falls σ b m = step_of_fewer σ (kind_of b) (owner b) (enabled_able σ b m)

-- a byte of one of six threads is one of the twelve names
named : (b : ℕ) → owner b < 6 → Memᴰ b TSO.names
named b h = go (byte_case b)
  where
    go : ByteCase b → Memᴰ b TSO.names
    go (of_access i k o) = Memᴰ.append_left (range 16 6) (in_range_lem 0 6 b (omega arith) (omega arith))
    go (of_move i k o) = Memᴰ.append_right (range 0 6) (in_range_lem 16 6 b (omega arith) (omega arith))

-- below 22
pub enabled_below : (σ : State) (b : ℕ) → enabled σ b ≡ true → b < 22
enabled_below σ b m = go (byte_case b)
  where
    go : ByteCase b → b < 22
    go (of_access h k o) = omega arith
    go (of_move h k o) = omega (arith, o, enabled_small σ b m)

pub lawful : Lawful TSO
lawful = record { named = λ σ b m. named b (enabled_small σ b m); falls = falls }

-- the twelve names ascend
pub names_ascend : Ascends ltb TSO.names
names_ascend = ascends_append ltb (range 0 6) (range 16 6) (range_ascends 0 6) (range_ascends 16 6)
    (λ x y i j. lt-ltb x y (omega (arith, (of_range 0 6 x i).1, (of_range 16 6 y j).0)))

-- before the first step nothing is pending, so the size is twice that of the same start under sequential consistency
idle_size : (hs : List SC.Thread) → size_of (map idle hs) ≡ SC.accesses_left hs + SC.accesses_left hs
unfolding size_of weight idle SC.accesses_left
idle_size [] = refl
idle_size (h ∷ hs) = let e = idle_size hs in omega arith

pub start_32 : (p : Program) → all_accesses p.threads ≤ 16 → size (start p) ≤ 32
unfolding size start drained SC.size
start_32 p h = let e = idle_size (SC.start p).threads in let k = start_size p in omega arith

-- T0 here: at most 32 steps
pub at_most_32 : (p : Program) → all_accesses p.threads ≤ 16 → (s : Schedule) → Full p s → length s ≤ 32
at_most_32 p h s f = omega (arith, full_length TSO lawful (start p) s f, start_32 p h)

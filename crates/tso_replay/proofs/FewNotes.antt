-- A run has no more notes than the program has accesses: a read's note comes with its access, a store's with its move.
use Prim.Native.Nat.{ℕ, zero, suc, ◌+◌, ◌<◌, ◌≤◌}
use native.Mathlib.Omega.{arith}
use native.Mathlib.Nat.{not-suc-le-zero, le_of_suc-le-suc}
use mathlib.Core.Path.{◌≡◌, refl}
use mathlib.Core.Bool.{Bool, true, false, cond, ◌||◌, true≢false, false≢true}
use mathlib.Core.Option.{Option, none, some}
use mathlib.Core.List.{List, [], ◌∷◌, map}
use lib.ListN.{length, get_or, set, length-append}
use Rattle.spec_file.specs.Program.{Program}
use Rattle.spec_file.specs.WellFormed.{accesses, all_accesses}
use Rattle.spec_file.specs.declared.instruction.Access.TheVariants.{Store, Load, FetchAdd, CompareSwap}
use Rattle.spec_file.specs.declared.instruction.Instruction.{Instruction}
use Rattle.spec_file.specs.declared.instruction.Instruction.TheVariants.{Memory, Alone}
use Rattle.spec_schedules.specs.Order.{Schedule}
use Rattle.spec_schedules.specs.System.{Allowed}
use Rattle.spec_sc.specs.Local.{Local, access_takes, access_puts, first_takes, first_puts, place_of, takes, puts}
use Rattle.spec_sc.specs.State as SC
use Rattle.spec_sc.specs.State.{Cell}
use Rattle.spec_sc.specs.Actions.{given}
use Rattle.spec_sc.proofs.Access.{next_fewer}
use Rattle.spec_sc.proofs.Lawful.{start_size}
use Rattle.graph_writer.specs.Notes.{Note}
use Rattle.spec_tso.specs.Queue.{queued, at_once}
use Rattle.spec_tso.specs.State.{Thread, State, Kind, access, move, access_locks, first_locks, locked, no_thread, thread_of, cell_of, idle, drained, finds, reaches, thread_behind, place, step_of, able, kind_of, owner, step, enabled, TSO, start}
use Rattle.spec_tso.specs.Actions.{action, action_of, reading}
use Rattle.spec_tso.proofs.Lawful.{newer_fewer}
use Rattle.spec_tso.proofs.Steps.{enabled_able, able_pending, able_movable, able_range}
use Rattle.tso_replay.specs.Noted.{note_of, noted, notes}

-- an access that is not locked reads or writes, not both
silent_at : (rs : List ℕ) (is : List Instruction) (x : ℕ) → first_locks is ≡ false → first_takes is ≡ true → first_puts rs is x ≡ none
unfolding first_locks first_takes first_puts access_locks access_takes access_puts
silent_at rs [] x e q = refl
silent_at rs (Memory (Store l p) ∷ is) x e q = absurd (false≢true q)
silent_at rs (Memory (Load r l) ∷ is) x e q = refl
silent_at rs (Memory (FetchAdd r l p) ∷ is) x e q = absurd (true≢false e)
silent_at rs (Memory (CompareSwap r l c v) ∷ is) x e q = absurd (true≢false e)
silent_at rs (Alone o ∷ is) x e q = refl

silent : (h : Local) (x : ℕ) → locked h ≡ false → takes h ≡ true → puts h x ≡ none
unfolding locked takes puts
silent h x e q = silent_at h.registers h.rest x e q

-- what a thread still has to note: accesses left, and stores that wait
abbrev to_note : Thread → ℕ
to_note h = accesses h.local.rest + length h.queue

-- whether it states something, as a number
abbrev one : Bool → ℕ
one b = cond b 1 0

one_most : (b : Bool) → one b ≤ 1
one_most true = omega arith
one_most false = omega arith

-- what is queued and what is stated are one in all
balance : (b r : Bool) (i l : ℕ) (o : Option ℕ) → (b ≡ false → r ≡ true → o ≡ none) → length (queued b i l o) + one (r || given (at_once b o)) ≤ 1
unfolding queued at_once given
balance b r i l none h = omega (arith, one_most (r || given (at_once b none)))
balance true r i l (some v) h = omega (arith, one_most (r || true))
balance false false i l (some v) h = omega arith
balance false true i l (some v) h = absurd (let e : some v ≡ none = h refl refl in let z : ◌≡◌ {A = ℕ} 0 1 = cc in omega arith)

lighter : (k : Kind) (t : ℕ) (h : Thread) (c : Cell) (n : ℕ) → able k h n ≡ true → to_note (thread_behind k t h c) + one (reading k h || given (reaches k t h c)) ≤ to_note h
unfolding thread_behind reading reaches
lighter access t h c n e =
    let x = (finds t h c).value in
    let w = queued (locked h.local) h.history.done (place_of h.local) (puts h.local x) in
    omega (
      arith,
      next_fewer h.local x (able_pending h n e),
      length-append h.queue w,
      balance (locked h.local) (takes h.local) h.history.done (place_of h.local) (puts h.local x) (silent h.local x),
    )
lighter move t h c n e = omega (arith, newer_fewer h.queue n (able_movable h n e), one_most (false || given (reaches move t h c)))

-- ---- all threads
all_to_note : List Thread → ℕ
all_to_note [] = 0
all_to_note (h ∷ hs) = to_note h + all_to_note hs

set_lighter : (l : List Thread) (t : ℕ) (h d : Thread) (n : ℕ) → t < length l → to_note h + n ≤ to_note (get_or l t d) → all_to_note (set l t h) + n ≤ all_to_note l
unfolding all_to_note
set_lighter [] t h d n i e = absurd (not-suc-le-zero i)
set_lighter (x ∷ l) zero h d n i e = omega arith
set_lighter (x ∷ l) (suc t) h d n i e = omega (arith, set_lighter l t h d n (le_of_suc-le-suc i) e)

noted_length : (n : Note) (b : Bool) → length (cond b (n ∷ []) []) ≡ one b
noted_length n true = refl
noted_length n false = refl

step_lighter : (σ : State) (b : ℕ) → enabled σ b ≡ true → all_to_note (step σ b).threads + length (noted σ b) ≤ all_to_note σ.threads
unfolding step step_of thread_of noted action action_of
step_lighter σ b m =
    let k = kind_of b in
    let t = owner b in
    let e = enabled_able σ b m in
    let h = thread_of σ t in
    let c = cell_of σ (place σ k t) in
    omega (
      arith,
      noted_length (note_of σ b) (reading k h || given (reaches k t h c)),
      set_lighter σ.threads t (thread_behind k t h c) no_thread (one (reading k h || given (reaches k t h c))) (able_range σ k t (length σ.cells) e) (lighter k t h c (length σ.cells) e),
    )

run_lighter : (s : Schedule) (σ : State) → Allowed TSO σ s → length (notes σ s) ≤ all_to_note σ.threads
unfolding notes
run_lighter [] σ a = omega arith
run_lighter (b ∷ s) σ a = omega (arith, length-append (noted σ b) (notes (step σ b) s), run_lighter s (step σ b) a.1, step_lighter σ b a.0)

idle_notes : (hs : List SC.Thread) → all_to_note (map idle hs) ≡ SC.accesses_left hs
unfolding all_to_note idle SC.accesses_left
idle_notes [] = refl
idle_notes (h ∷ hs) = let e = idle_notes hs in omega arith

-- AT MOST 16 NOTES
pub notes_16 : (p : Program) → all_accesses p.threads ≤ 16 → (s : Schedule) → Allowed TSO (start p) s → length (notes (start p) s) ≤ 16
unfolding start drained SC.size
notes_16 p h s a = omega (arith, run_lighter s (start p) a, idle_notes (SC.start p).threads, start_size p)

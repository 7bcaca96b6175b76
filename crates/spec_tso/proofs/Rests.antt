-- What is left of a thread's code is an end of it.
use Prim.Native.Nat.{ℕ}
use mathlib.Core.Path.{◌≡◌, ap}
use mathlib.Core.Bool.{true}
use mathlib.Core.List.{[], ◌∷◌}
use lib.ListN.{length}
use Rattle.spec_file.specs.Program.{Program, code_of}
use Rattle.spec_schedules.specs.Order.{Schedule}
use Rattle.spec_schedules.specs.System.{run, Allowed}
use Rattle.spec_sc.specs.State as SC
use Rattle.spec_sc.specs.State.{Cell}
use Rattle.spec_sc.proofs.Suffix.{Suffix, suffix_same, suffix_trans}
use Rattle.spec_sc.proofs.Access.{next_suffix}
use Rattle.spec_sc.proofs.Histories as SCHistories
use Rattle.spec_tso.specs.State.{Thread, State, thread_of, cell_of, finds, thread_behind, place, step_of, able, kind_of, owner, step, TSO, idle, start, Kind, access, move}
use Rattle.spec_tso.proofs.Steps.{enabled_able, able_pending, able_range}
use Rattle.spec_tso.proofs.Change.{thread_cases}
use Rattle.spec_tso.proofs.Seen.{drained_thread}

own_rest : (k : Kind) (t : ℕ) (h : Thread) (c : Cell) (n : ℕ) → able k h n ≡ true → Suffix (thread_behind k t h c).local.rest h.local.rest
unfolding thread_behind
own_rest access t h c n m = next_suffix h.local (finds t h c).value (able_pending h n m)
own_rest move t h c n m = suffix_same h.local.rest

pub rest_step_of : (σ : State) (k : Kind) (t : ℕ) → able k (thread_of σ t) (length σ.cells) ≡ true → (u : ℕ) → Suffix (thread_of (step_of σ k t) u).local.rest (thread_of σ u).local.rest
rest_step_of σ k t m u =
    thread_cases (λ i h. Suffix h.local.rest (thread_of σ i).local.rest) σ k t (able_range σ k t (length σ.cells) m)
    (own_rest k t (thread_of σ t) (cell_of σ (place σ k t)) (length σ.cells) m) u (λ ne. suffix_same (thread_of σ u).local.rest)

pub rest_run : (z : Schedule) (σ : State) → Allowed TSO σ z → (u : ℕ) → Suffix (thread_of (run TSO σ z) u).local.rest (thread_of σ u).local.rest
unfolding run step
rest_run [] σ a u = suffix_same (thread_of σ u).local.rest
rest_run (b ∷ z) σ a u = suffix_trans (rest_run z (step σ b) a.1 u) (rest_step_of σ (kind_of b) (owner b) (enabled_able σ b a.0) u)

rest_start : (p : Program) (u : ℕ) → Suffix (thread_of (start p) u).local.rest (code_of p u)
unfolding run start idle
rest_start p u =
    let e : (thread_of (start p) u).local ≡ (SC.thread_of (SC.start p) u).local = ap (λ (h : Thread). h.local) (drained_thread (SC.start p) u) in
    rw e (SCHistories.rest_code p [] tt u)

pub rest_code : (p : Program) (s : Schedule) → Allowed TSO (start p) s → (u : ℕ) → Suffix (thread_of (run TSO (start p) s) u).local.rest (code_of p u)
rest_code p s a u = suffix_trans (rest_run s (start p) a u) (rest_start p u)

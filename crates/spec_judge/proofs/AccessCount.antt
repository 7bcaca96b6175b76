-- Belongs to the machine. A thread does at most as many accesses as its code has, and so at most 16.
use Prim.Native.Nat.{ℕ, ◌+◌, ◌≤◌}
use mathlib.Core.Path.{◌≡◌}
use mathlib.Core.Bool.{true}
use mathlib.Core.List.{List, [], ◌∷◌}
use native.Mathlib.Omega.{arith}
use lib.ListN.{length}
use Rattle.spec_file.specs.Program.{Program, code_of}
use Rattle.spec_file.specs.WellFormed.{WellFormed, accesses}
use Rattle.spec_file.specs.declared.instruction.Instruction.{Instruction}
use Rattle.spec_file.specs.declared.instruction.Instruction.TheVariants.{Memory, Alone}
use Rattle.spec_file.proofs.Everywhere.{everywhere_get_d}
use Rattle.spec_schedules.specs.Order.{Schedule}
use Rattle.spec_schedules.specs.System.{run, Allowed}
use Rattle.spec_sc.specs.Local.{takes}
use Rattle.spec_sc.specs.State.{State, thread_of, cell_of, place, latest, advanced, step, enabled, SC, start}
use Rattle.spec_sc.proofs.Access.{suffix_accesses, next_fewer}
use Rattle.spec_sc.proofs.Steps.{enabled_pending, enabled_range}
use Rattle.spec_sc.proofs.Change.{thread_cases, noted_done}
use Rattle.spec_sc.proofs.Start.{start_history}
use Rattle.spec_sc.proofs.Histories.{rest_code}

accesses_length : (is : List Instruction) → accesses is ≤ length is
unfolding accesses
accesses_length [] = omega arith
accesses_length (Memory a ∷ is) = omega (arith, accesses_length is)
accesses_length (Alone o ∷ is) = omega (arith, accesses_length is)

-- what thread u has done and what is left of it
abbrev total : State → ℕ → ℕ
total σ u = (thread_of σ u).history.done + accesses (thread_of σ u).local.rest

total_step : (σ : State) (t : ℕ) → enabled σ t ≡ true → (u : ℕ) → total (step σ t) u ≤ total σ u
unfolding advanced
total_step σ t m u = thread_cases (λ k h. h.history.done + accesses h.local.rest ≤ total σ k) σ t (enabled_range σ t m)
    (omega (
      arith,
      noted_done (takes (thread_of σ t).local) (latest (cell_of σ (place σ t)).writes) (thread_of σ t).history,
      next_fewer
          (thread_of σ t).local (cell_of σ (place σ t)).value (enabled_pending σ t m),
    )) u (λ ne. omega arith)

total_run : (z : Schedule) (σ : State) → Allowed SC σ z → (u : ℕ) → total (run SC σ z) u ≤ total σ u
unfolding run
total_run [] σ a u = omega arith
total_run (t ∷ z) σ a u = omega (arith, total_run z (step σ t) a.1 u, total_step σ t a.0 u)

total_start : (p : Program) → WellFormed p → (u : ℕ) → total (start p) u ≤ 16
unfolding run code_of
total_start p wf u = omega (
  arith,
  (start_history p u).0,
  suffix_accesses (thread_of (start p) u).local.rest (code_of p u)
      (rest_code p [] tt u),
  accesses_length (code_of p u),
  everywhere_get_d (λ (c : List Instruction). length c ≤ 16) p.threads u [] wf.sixteen (omega arith),
)

pub done_16 : (p : Program) → WellFormed p → (s : Schedule) → Allowed SC (start p) s → (u : ℕ) → (thread_of (run SC (start p) s) u).history.done ≤ 16
done_16 p wf s a u = omega (arith, total_run s (start p) a u, total_start p wf u)

-- A THREAD OF AN `02` LINE DOES AT MOST TWELVE ACCESSES, for another thread has its code and all codes have at most 24.
use Prim.Native.Nat.{ℕ, zero, suc, ◌+◌, ◌≤◌}
use mathlib.Core.Path.{◌≡◌, refl, sym, ap, subst}
use mathlib.Core.Logic.{◌≢◌}
use mathlib.Core.List.{List, [], ◌∷◌}
use native.Mathlib.Omega.{arith}
use native.Mathlib.Decide.{ℕ_discrete}
use lib.ListN.{get_or}
use Rattle.spec_file.specs.Program.{Program, code_of}
use Rattle.spec_file.specs.WellFormed.{WellFormed, accesses, all_accesses}
use Rattle.spec_file.specs.declared.instruction.Instruction.{Instruction}
use Rattle.spec_schedules.specs.Order.{Schedule}
use Rattle.spec_schedules.specs.System.{run, Allowed}
use Rattle.spec_model.specs.Exchange.{Together}
use Rattle.spec_model.proofs.Exchanges.{members}
use Rattle.spec_sc.specs.Local.{begin}
use Rattle.spec_sc.specs.State.{Thread, State, thread_of, cell_of, place, advanced, step, opened, SC, start}
use Rattle.spec_sc.specs.Graph.{end_of}
use Rattle.spec_sc.proofs.Access.{next_fewer, suffix_accesses, begin_law}
use Rattle.spec_sc.proofs.Steps.{enabled_pending, enabled_range, thread_own, thread_other}
use Rattle.spec_sc.proofs.Change.{done_own}
use Rattle.spec_sc.proofs.Start.{start_thread, start_history}

-- the accesses that a thread has done and those in the code left to it do not grow together
spent : (v : Schedule) (σ : State) → Allowed SC σ v → (t : ℕ) →
    (thread_of (run SC σ v) t).history.done + accesses (thread_of (run SC σ v) t).local.rest ≤ (thread_of σ t).history.done + accesses (thread_of σ t).local.rest
unfolding run advanced
spent [] σ a t = omega arith
spent (s ∷ v) σ a t = omega (arith, spent v (step σ s) a.1 t, go (ℕ_discrete t s))
  where
    go : Dec (t ≡ s) → (thread_of (step σ s) t).history.done + accesses (thread_of (step σ s) t).local.rest ≤ (thread_of σ t).history.done + accesses (thread_of σ t).local.rest
    go (no q) = let e = thread_other σ s t q in omega (arith, ap (λ (h : Thread). h.history.done) e, ap (λ (h : Thread). accesses h.local.rest) e)
    go (yes q) = subst (λ (y : ℕ). (thread_of (step σ s) y).history.done + accesses (thread_of (step σ s) y).local.rest ≤ (thread_of σ y).history.done + accesses (thread_of σ y).local.rest) (sym q)
        (omega (
          arith,
          done_own σ s (enabled_range σ s a.0),
          ap (λ (h : Thread). accesses h.local.rest) (thread_own σ s (enabled_range σ s a.0)),
          next_fewer (thread_of σ s).local (cell_of σ (place σ s)).value (enabled_pending σ s a.0),
        ))

-- two of these codes have no more accesses than all together
one_code : (cs : List (List Instruction)) (t : ℕ) → accesses (get_or cs t []) ≤ all_accesses cs
unfolding all_accesses accesses
one_code [] t = omega arith
one_code (c ∷ cs) zero = omega arith
one_code (c ∷ cs) (suc t) = omega (arith, one_code cs t)

two_codes : (cs : List (List Instruction)) (t u : ℕ) → t ≢ u → accesses (get_or cs t []) + accesses (get_or cs u []) ≤ all_accesses cs
unfolding all_accesses accesses
two_codes [] t u ne = omega arith
two_codes (c ∷ cs) zero zero ne = absurd (ne refl)
two_codes (c ∷ cs) zero (suc u) ne = omega (arith, one_code cs u)
two_codes (c ∷ cs) (suc t) zero ne = omega (arith, one_code cs t)
two_codes (c ∷ cs) (suc t) (suc u) ne = omega (arith, two_codes cs t u (λ e. ne (ap suc e)))

pub twelve : (p : Program) → WellFormed p → (t u : ℕ) → t ≢ u → Together p t u → (v : Schedule) → Allowed SC (start p) v → (thread_of (end_of p v) t).history.done ≤ 12
unfolding code_of opened
twelve p w t u ne line v a =
    let m = members p w t u line in
    omega (
      arith,
      spent v (start p) a t,
      (start_history p t).0,
      ap (λ (h : Thread). accesses h.local.rest) (start_thread p t m.0),
      suffix_accesses (begin (code_of p t)).rest (code_of p t) (begin_law (code_of p t)).1,
      two_codes p.threads t u ne,
      ap accesses m.2,
      w.access_24,
    )

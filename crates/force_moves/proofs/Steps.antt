-- A play one step further.
use Prim.Native.Nat.{ℕ, ◌<◌}
use native.Mathlib.Omega.{arith}
use mathlib.Core.Path.{◌≡◌, sym, subst}
use mathlib.Core.Bool.{true}
use mathlib.Core.List.{List, [], ◌∷◌, ◌++◌}
use Rattle.spec_file.specs.Program.{Program}
use Rattle.spec_schedules.specs.Order.{Schedule}
use Rattle.spec_schedules.proofs.Runs.{run_nil, run_snoc, allowed_join}
use Rattle.spec_sc.specs.State.{State, place, enabled, SC, start}
use Rattle.spec_sc.specs.Graph.{end_of}
use Rattle.spec_sc.proofs.Steps.{enabled_range, run_threads}
use Rattle.spec_sc.proofs.Start.{start_threads}
use Rattle.spec_sc.proofs.Regular.{place_in, regular_run, regular_start}
use Rattle.machine.specs.declared.state.Machine.{Machine}
use Rattle.machine.specs.declared.stepping.Stepped.{Stepped}
use Rattle.machine.specs.Held.{Holds, Ready, HoldsStep, Loaded}
use Rattle.machine.proofs.HeldStart.{threads_held, short_held}
use Rattle.machine.proofs.HeldAsking.{ready_held}
use Rattle.force_moves.specs.Standing.{Tails, Standing}

-- before the first step
pub standing_start : (code lengths tails : List ℕ) (threads : ℕ) (m : Machine) (p : Program) → Loaded code lengths threads p → Tails code lengths threads tails
    → Holds code lengths m (start p) → Standing code lengths tails threads m p []
standing_start code lengths tails threads m p l e h =
    record { loaded = l; ends = e; allowed = tt; holds = subst (Holds code lengths m) (sym (run_nil SC (start p))) h }

module _ (code lengths tails : List ℕ) (threads : ℕ) (m : Machine) (p : Program) (v : Schedule) (st : Standing code lengths tails threads m p v) (t : ℕ)
    (ok : enabled (end_of p v) t ≡ true) where
  pub standing_ready : Ready lengths m t
  standing_ready =
      ready_held code lengths m (end_of p v) st.holds t
      (short_held code lengths threads p st.loaded t (omega (arith, enabled_range (end_of p v) t ok, run_threads v (start p), start_threads p, threads_held code lengths threads p st.loaded))) ok

  standing_near : place (end_of p v) t < 8
  standing_near =
      let r = regular_run v (start p) (regular_start p st.loaded.well_formed) st.allowed in
      omega (arith, place_in (end_of p v) r t, r.eight)

  pub standing_step : (r : Stepped) → ((σ : State) → Holds code lengths m σ → enabled σ t ≡ true → place σ t < 8 → HoldsStep code lengths σ t r)
      → (n : Machine) → n ≡ r.machine → Standing code lengths tails threads n p (v ++ (t ∷ []))
  standing_step r acts n e = record {
    loaded = st.loaded;
    ends = st.ends;
    allowed = allowed_join SC (start p) v (t ∷ []) st.allowed (ok, tt);
    holds = subst (λ (k : Machine). Holds code lengths k (end_of p (v ++ (t ∷ [])))) (sym e)
        (subst (Holds code lengths r.machine) (sym (run_snoc SC (start p) v t)) (acts (end_of p v) st.holds ok standing_near).holds);
  }

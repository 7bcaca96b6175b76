-- ONE STEP MORE: who is late, and who is far, behind a step follows from who was before it, and from what the step did.
use Prim.Native.Nat.{ℕ}
use mathlib.Core.Path.{◌≡◌, refl}
use mathlib.Core.Bool.{Bool, true, false, ◌||◌}
use mathlib.Core.List.{[], ◌∷◌, ◌++◌}
use lib.Dec.{ltb}
use Rattle.spec_file.specs.Program.{Program}
use Rattle.spec_file.specs.WellFormed.{WellFormed}
use Rattle.spec_schedules.specs.Order.{Schedule}
use Rattle.spec_schedules.specs.System.{Allowed}
use Rattle.theory_search.specs.LateSet.{goes_on}
use Rattle.theory_search.proofs.LateSet as LateSet
use Rattle.spec_tso.specs.State.{State, step, enabled, start, TSO}
use Rattle.spec_tso.specs.Graph.{end_of}
use Rattle.spec_tso.specs.Actions.{action, dependent}
use Rattle.spec_tso.proofs.Regular.{regular_start, regular_run}
use Rattle.spec_tso.specs.TotalStoreOrder.{tso}
use Rattle.spec_tso.proofs.Laws.{tso_laws}
use Rattle.theory_tso.specs.Far.{placed, byte_at, action_at, starts}
use Rattle.theory_tso.specs.Deeds.{deed, waits}
use Rattle.theory_tso.specs.LateBytes.{late_at, far_at}
use Rattle.theory_tso.proofs.Deeds.{waits_exact}

module _ (p : Program) (w : WellFormed p) (v : Schedule) (a : Allowed TSO (start p) v) (b : ℕ) (m : enabled (end_of p v) b ≡ true) where
  abbrev σ : State
  σ = end_of p v

  abbrev τ : State
  τ = step (end_of p v) b

  exact : (c : ℕ) → dependent (action (end_of p v) b) (action (step (end_of p v) b) c) ≡ waits (deed (end_of p v) b) (deed (step (end_of p v) b) c)
  exact c = waits_exact σ b c (regular_run v (start p) (regular_start p w) a) m

  -- R1
  pub late_more : (c : ℕ) → late_at p (v ++ (b ∷ [])) c ≡ goes_on (enabled (step (end_of p v) b)) b (λ i. ltb i b || late_at p v i) (λ i. waits (deed (end_of p v) b) (deed (step (end_of p v) b) i)) c
  late_more = LateSet.late_more tso tso_laws.steps p v b m (λ c. waits (deed σ b) (deed τ c)) exact

  -- R2 far
  pub far_more : (c : ℕ) → far_at p (v ++ (b ∷ [])) c ≡ goes_on (enabled (step (end_of p v) b)) b (λ i. starts p (end_of p v, b) i || far_at p v i) (λ i. waits (deed (end_of p v) b) (deed (step (end_of p v) b) i)) c
  far_more = LateSet.back_more tso tso_laws.steps placed action_at byte_at (starts p) (λ ρ c. refl) (λ ρ c. refl) p v b m (λ c. waits (deed σ b) (deed τ c)) exact

-- before the first step none is
pub late_start : (p : Program) (c : ℕ) → late_at p [] c ≡ false
late_start p = LateSet.late_start tso tso_laws.steps p

pub far_start : (p : Program) (c : ℕ) → far_at p [] c ≡ false
far_start p = LateSet.back_start tso tso_laws.steps placed action_at byte_at (starts p) (λ ρ i. refl) (λ ρ i. refl) p

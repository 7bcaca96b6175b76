-- The late set as code carries it: none at the start, then step by step; it is a byte, and has exactly the late.
use Prim.Native.Nat.{ℕ, ◌<◌}
use mathlib.Core.Path.{◌≡◌, refl, sym, ap, ◌∙◌}
use mathlib.Core.Bool.{Bool, true, false, not, ◌&&◌, ◌||◌}
use mathlib.Core.List.{[], ◌∷◌, ◌++◌}
use native.Mathlib.Omega.{arith}
use native.Mathlib.Decide.{dec_lt}
use lib.Dec.{eqb, ltb}
use Rattle.spec_file.specs.Program.{Program}
use Rattle.spec_schedules.specs.Order.{Schedule}
use Rattle.theory_search.specs.LateSet.{back_at, late_at}
use Rattle.theory_search.proofs.LateSet as LateSet
use Rattle.spec_sc.specs.State.{State, step, enabled}
use Rattle.spec_sc.specs.Graph.{end_of}
use Rattle.spec_sc.specs.Actions.{action, conflict}
use Rattle.spec_sc.proofs.Steps.{enabled_small}
use Rattle.spec_sc.specs.Sequential.{sc}
use Rattle.spec_sc.proofs.Laws.{sc_laws}
use Rattle.theory_sc.specs.Rules.{late, taken}
use Rattle.spec_schedules.specs.Sets.{has}
use Rattle.theory_sc.specs.LateSet.{late_now, late_behind, late_set}
use Rattle.theory_sc.proofs.Sets.{set_below, set_has, set_above, set_same, set_none}

not_small : (σ : State) (t : ℕ) → (t < 6 → ⊥) → enabled σ t ≡ false
not_small σ t n = go (enabled σ t) refl
  where
    go : (b : Bool) → enabled σ t ≡ b → enabled σ t ≡ false
    go true e = absurd (n (enabled_small σ t e))
    go false e = e

-- EXACTLY THE LATE
pub late_set_lem : (p : Program) (v : Schedule) (t : ℕ) → has (late_set p v) t ≡ (enabled (end_of p v) t && late (taken p v) (action (end_of p v) t))
unfolding late_set back_at
late_set_lem p v t = go (dec_lt t 6)
  where
    go : Dec (t < 6) → has (late_set p v) t ≡ late_at sc p v t
    go (yes h) = set_has (late_at sc p v) 6 t h
    go (no h) = set_above (late_at sc p v) 6 t (omega arith) ∙ sym (ap (λ (b : Bool). b && late (taken p v) (action (end_of p v) t)) (not_small (end_of p v) t h))

-- of a thread that may step
pub late_exact : (p : Program) (v : Schedule) (t : ℕ) → enabled (end_of p v) t ≡ true → has (late_set p v) t ≡ late (taken p v) (action (end_of p v) t)
late_exact p v t m = late_set_lem p v t ∙ ap (λ (b : Bool). b && late (taken p v) (action (end_of p v) t)) m

module _ (p : Program) where
  pub late_start : late_set p [] ≡ 0
  unfolding late_set
  late_start = set_none (late_at sc p []) 6 (λ t h. LateSet.late_start sc sc_laws.steps p t)

  pub late_more : (v : Schedule) (t : ℕ) → enabled (end_of p v) t ≡ true → late_set p (v ++ (t ∷ [])) ≡ late_behind (step (end_of p v) t) (late_set p v) (action (end_of p v) t)
  unfolding late_set late_behind late_now action
  late_more v t m = set_same (late_at sc p (v ++ (t ∷ []))) (late_now (step (end_of p v) t) (late_set p v) (action (end_of p v) t)) 6
      (λ u h. LateSet.late_more sc sc_laws.steps p v t m (λ c. conflict (action (end_of p v) t) (action (step (end_of p v) t) c)) (λ c. refl) u
      ∙ ap (λ (b : Bool). enabled (step (end_of p v) t) u && (not (eqb t u) && ((ltb u t || b) && not (conflict (action (end_of p v) t) (action (step (end_of p v) t) u))))) (sym (set_has (late_at sc p v) 6 u h)))

  pub late_below : (v : Schedule) → late_set p v < 64
  unfolding late_set
  late_below v = set_below (late_at sc p v) 6

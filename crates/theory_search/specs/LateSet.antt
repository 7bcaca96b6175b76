-- THE LATE SET: the bytes that may step and whose step would come late; in general, those whose step would go back to a place where a test
-- holds. It is carried from step to step, so that no rule looks at older steps. A set of bytes is given by its test.
use Rattle.std.specs.Prelude.{ℕ, Bool, not, ◌&&◌, List, reverse, eqb, ltb}
use Rattle.spec_file.specs.Program.{Program}
use Rattle.spec_schedules.specs.Order.{Schedule}
use Rattle.spec_schedules.specs.Orders.{trace}
use Rattle.spec_model.specs.Model.{Model, end_of, actions}
use Rattle.theory_search.specs.Back.{back}

-- behind a step b: the byte c may step, is not b, is among those that were in the set or begin here, and need not wait for b
abbrev pub goes_on : (ℕ → Bool) → ℕ → (ℕ → Bool) → (ℕ → Bool) → ℕ → Bool
goes_on may b among waits c = may c && (not (eqb b c) && (among c && not (waits c)))

module _ (M : Model) where
  -- the actions of a prefix, latest first
  abbrev pub taken : Program → Schedule → List M.Action
  taken p v = reverse (actions M p v)

  -- of steps that are told apart by `at`, do this and have these bytes: behind the prefix v the byte c may step, and its step goes back
  unfoldable pub back_at : {D : Type 0} → (M.system.State → ℕ → D) → (D → M.Action) → (D → ℕ) → (D → ℕ → Bool) → Program → Schedule → ℕ → Bool
  back_at at does who starts p v c =
      M.system.enabled (end_of M p v) c
      && back who (λ e d. M.dependent (does e) (does d)) starts (reverse (trace M.system at (M.start p) v)) (at (end_of M p v) c)

  -- R1 as a set: behind the prefix v the byte c may step, and its step would come late
  abbrev pub late_at : Program → Schedule → ℕ → Bool
  late_at = back_at M.act (λ d. d) M.who (λ e c. ltb c (M.who e))

-- The orders of a run's own steps. Each step of a run is noted as an action; `who` is its byte, and `dependent` says of two actions of
-- different bytes that they must keep their order. Taking the least byte whose next action waits for none, again and again, gives the least
-- order of the actions in which dependent ones keep theirs.
use Rattle.std.specs.Prelude.{ℕ, ◌≡◌, Bool, true, false, List, [], ◌∷◌, eqb, length}
use Rattle.std.proofs.Math.Option.{Option, none, some}
use Rattle.spec_schedules.specs.Order.{Schedule}
use Rattle.spec_schedules.specs.System.{System}
use Rattle.spec_schedules.specs.Greedy.{Fitting}

-- the actions of a run: `act σ t` is what the step t does in σ
unfoldable pub trace : (M : System) → {D : Type 0} → (M.State → ℕ → D) → M.State → Schedule → List D
trace M act σ [] = []
trace M act σ (t ∷ s) = act σ t ∷ trace M act (M.step σ t) s

module _ {D : Type 0} (who : D → ℕ) (dependent : D → D → Bool) where
  -- the first action of t
  unfoldable pub next_of : List D → ℕ → Option D
  next_of [] t = none
  next_of (d ∷ ds) t = elim (eqb (who d) t) [ true ↦ some d | false ↦ next_of ds t ]

  -- d depends on none of the actions before the first one of t
  unfoldable pub clear : List D → ℕ → D → Bool
  clear [] t d = true
  clear (e ∷ ds) t d = elim (eqb (who e) t) [ true ↦ true | false ↦ elim (dependent e d) [ true ↦ false | false ↦ clear ds t d ] ]

  unfoldable pub clear_of : List D → ℕ → Option D → Bool
  clear_of ds t none = false
  clear_of ds t (some d) = clear ds t d

  -- t has an action left, and its first waits for none
  unfoldable pub ready : List D → ℕ → Bool
  ready ds t = clear_of ds t (next_of ds t)

  -- what is left when t has gone
  unfoldable pub take_out : List D → ℕ → List D
  take_out [] t = []
  take_out (d ∷ ds) t = elim (eqb (who d) t) [ true ↦ ds | false ↦ d ∷ take_out ds t ]

  -- the actions left to take, as a step system
  abbrev pub Remaining : List ℕ → System
  Remaining names = record { State = List D; enabled = ready; step = take_out; names = names; size = length }

  -- the bytes s are an order of the actions ds in which dependent ones keep theirs
  abbrev pub OrderOf : List ℕ → List D → Schedule → Type 0
  OrderOf names ds s = Fitting (Remaining names) ready (λ es. es ≡ []) ds s

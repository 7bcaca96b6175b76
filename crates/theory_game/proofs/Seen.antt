-- WHAT IS SEEN OF A STATE DECIDES A PROGRAM'S GAME: code left, live registers and memory, and whether an assertion failed.
use Prim.Native.Nat.{ℕ}
use mathlib.Core.Path.{◌≡◌, sym, ap₂, ◌∙◌}
use mathlib.Core.Bool.{◌||◌}
use mathlib.Core.List.{[], ◌∷◌, ◌++◌}
use Rattle.spec_file.specs.Program.{Program}
use Rattle.spec_file.specs.WellFormed.{WellFormed}
use Rattle.spec_schedules.specs.Order.{Schedule}
use Rattle.spec_sc.specs.State.{State, SC, start, fails}
use Rattle.spec_force.specs.Forced.{game_of}
use Rattle.theory_states.specs.Positions.{Reached}
use Rattle.theory_states.proofs.Positions.{reached_on}
use Rattle.theory_sc_key.specs.View.{SameView}
use Rattle.theory_sc_key.proofs.View.{step_same, same_behind, fails_behind}
use Rattle.theory_sc_key.proofs.Traced.{traces}
use Rattle.theory_game.specs.Alike.{Alike}

-- two states of runs with one view, failed both or neither
pub record OneGame (p : Program) (σ τ : State) : Type 0 where
  pub left : (v : Schedule) × Reached SC (start p) v σ
  pub right : (v : Schedule) × Reached SC (start p) v τ
  pub view : SameView σ τ
  pub failed : fails σ ≡ fails τ

pub seen_alike : (set : ℕ) (p : Program) → WellFormed p → Alike (game_of set) (OneGame p)
seen_alike set p w = record {
  enabled = λ σ τ r t. (step_same σ τ r.view t).may;
  fails = λ σ τ r. r.failed;
  steps = λ σ τ r t ok.
      let v = r.left in
      let x = r.right in
      let same = step_same σ τ r.view t in
      let here = sym same.may ∙ ok in record {
        left = (v.0 ++ (t ∷ []), reached_on SC (start p) v.0 σ v.1 t ok);
        right = (x.0 ++ (t ∷ []), reached_on SC (start p) x.0 τ x.1 t here);
        view = same_behind σ τ (traces p w v.0 σ v.1).regular (traces p w x.0 τ x.1).regular r.view t ok;
        failed = fails_behind p v.0 σ v.1 t ok ∙ ap₂ ◌||◌ r.failed (same.broken ok) ∙ sym (fails_behind p x.0 τ x.1 t here);
      };
}

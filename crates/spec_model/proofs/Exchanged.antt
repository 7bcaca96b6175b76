-- Exchanged runs: what a full schedule does from a state, the exchanged schedule does from the exchanged state.
use Prim.Native.Nat.{ℕ}
use mathlib.Core.Path.{◌≡◌, refl, ap₂}
use mathlib.Core.List.{List, [], ◌∷◌, map}
use Rattle.spec_file.specs.Program.{Program}
use Rattle.spec_schedules.specs.Order.{Schedule}
use Rattle.spec_schedules.specs.System.{run, FullFrom}
use Rattle.spec_schedules.specs.Orders.{trace}
use Rattle.spec_model.specs.Exchange.{Permutation, Exchange}
use Rattle.spec_model.specs.Model.{Model, end_of, Full, graph, actions, moved_schedule}
use Rattle.spec_model.specs.Laws.{Admitted, Laws}

module _ (M : Model) (L : Laws M) (π : ℕ → ℕ) (q : Permutation π) where
  pub moves_full : (s : Schedule) (σ τ : M.system.State) → M.Moves π σ τ → FullFrom M.system σ s →
      FullFrom M.system τ (moved_schedule M π s) × M.Moves π (run M.system σ s) (run M.system τ (moved_schedule M π s))
  unfolding run
  moves_full [] σ τ m f = ((L.exchange π q σ τ m).ends f, m)
  moves_full (b ∷ s) σ τ m f =
      let x = L.exchange π q σ τ m in
      let r = moves_full s (M.system.step σ b) (M.system.step τ (M.moved_byte π b)) (x.step b f.0) f.1 in
      ((x.enabled b f.0, r.0), r.1)

  -- an exchanged schedule's actions are the exchanged actions
  pub moves_actions : (s : Schedule) (σ τ : M.system.State) → M.Moves π σ τ → FullFrom M.system σ s →
      trace M.system M.act τ (moved_schedule M π s) ≡ map (M.moved_action π) (trace M.system M.act σ s)
  unfolding trace
  moves_actions [] σ τ m f = refl
  moves_actions (b ∷ s) σ τ m f =
      let x = L.exchange π q σ τ m in
      ap₂ (λ (d : M.Action) (ds : List M.Action). d ∷ ds) (x.act b f.0) (moves_actions s (M.system.step σ b) (M.system.step τ (M.moved_byte π b)) (x.step b f.0) f.1)

module _ (M : Model) (L : Laws M) (p : Program) (a : Admitted M p) (π : ℕ → ℕ) (x : Exchange p π) where
  -- A FULL SCHEDULE, EXCHANGED, is full, with the exchanged end, the exchanged graph and the exchanged steps
  pub exchanged : (s : Schedule) → Full M p s → Full M p (moved_schedule M π s) × M.Moves π (end_of M p s) (end_of M p (moved_schedule M π s))
  exchanged s f = moves_full M L π x.0 s (M.start p) (M.start p) ((L.program p a).start π x) f

  pub exchanged_graph : (s : Schedule) → Full M p s → M.Renames π (graph M p s) (graph M p (moved_schedule M π s))
  exchanged_graph s f = (L.exchange π x.0 (end_of M p s) (end_of M p (moved_schedule M π s)) (exchanged s f).1).graph

  pub exchanged_actions : (s : Schedule) → Full M p s → actions M p (moved_schedule M π s) ≡ map (M.moved_action π) (actions M p s)
  exchanged_actions s f = moves_actions M L π x.0 s (M.start p) (M.start p) ((L.program p a).start π x) f

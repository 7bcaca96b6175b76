-- A full schedule's own steps in another order: where dependent ones keep theirs it is full again and ends in the same state. So schedules
-- with one graph have one end, and the least order of a schedule's steps is the least schedule with its graph.
use Prim.Native.Nat.{ℕ}
use mathlib.Core.Path.{◌≡◌}
use mathlib.Core.Logic.{◌≢◌}
use mathlib.Core.Bool.{true, false}
use Rattle.spec_file.specs.Program.{Program}
use Rattle.spec_schedules.specs.Order.{Schedule}
use Rattle.spec_schedules.specs.System.{run, FullFrom}
use Rattle.spec_schedules.specs.Orders.{trace, OrderOf}
use Rattle.spec_schedules.proofs.Front.{Commute}
use Rattle.spec_schedules.proofs.Orders as Schedules
use Rattle.spec_model.specs.Model.{Model, end_of, Full, graph}
use Rattle.spec_model.specs.Laws.{Admitted, StepLaws, Laws}

module _ (M : Model) (L : StepLaws M) where
  -- a step that need not stay behind the one before it: both can be turned round, and do what they did
  pub steps_commute : (σ : M.system.State) (a b : ℕ) → a ≢ b → M.system.enabled σ a ≡ true → M.system.enabled (M.system.step σ a) b ≡ true →
      M.dependent (M.act σ a) (M.act (M.system.step σ a) b) ≡ false →
      Commute M.system σ a b × (M.act (M.system.step σ a) b ≡ M.act σ b) × (M.act (M.system.step σ b) a ≡ M.act σ a)
  steps_commute σ a b ne m n d = let k = L.waits σ a b ne m n d in (L.swap σ a b ne m n d, k.0, k.1)

  -- OWN STEPS REORDERED stay full, with the same end
  pub order_full : (v w : Schedule) (σ : M.system.State) → FullFrom M.system σ w → OrderOf M.who M.dependent M.system.names (trace M.system M.act σ w) v →
      FullFrom M.system σ v × (run M.system σ v ≡ run M.system σ w)
  order_full = Schedules.order_full M.system L.lawful L.ascend M.who M.dependent M.act L.by steps_commute

module _ (M : Model) (L : Laws M) (p : Program) (a : Admitted M p) where
  -- ONE GRAPH, ONE END
  pub same_end : (v w : Schedule) → Full M p v → Full M p w → graph M p v ≡ graph M p w → end_of M p v ≡ end_of M p w
  same_end v w fv fw e = (order_full M L.steps v w (M.start p) fw ((L.program p a).same_graph v w fv fw e)).1

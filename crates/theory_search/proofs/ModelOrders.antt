-- The least schedule with a graph, by the least order of a run's actions.
use mathlib.Core.Path.{◌≡◌}
use mathlib.Core.List.{List}
use Rattle.spec_file.specs.Program.{Program}
use Rattle.spec_schedules.specs.Order.{Schedule}
use Rattle.spec_schedules.specs.System.{run, FullFrom}
use Rattle.spec_schedules.specs.Orders.{trace, OrderOf}
use Rattle.theory_search.specs.Orders.{least_order}
use Rattle.spec_schedules.proofs.Order.{AtMost}
use Rattle.theory_search.proofs.Orders as Schedules
use Rattle.spec_model.specs.Model.{Model, end_of, Full, graph, actions}
use Rattle.spec_model.specs.Laws.{Admitted, StepLaws, Laws}
use Rattle.spec_model.proofs.Orders.{steps_commute}

module _ (M : Model) (L : StepLaws M) where
  -- the least order of these actions in which dependent ones keep theirs
  abbrev pub least_of : List M.Action → Schedule
  least_of acts = least_order M.who M.dependent M.system.names acts

  pub order_least : (σ : M.system.State) (w : Schedule) → FullFrom M.system σ w →
      FullFrom M.system σ (least_of (trace M.system M.act σ w)) × (run M.system σ (least_of (trace M.system M.act σ w)) ≡ run M.system σ w) ×
      ((r : Schedule) → OrderOf M.who M.dependent M.system.names (trace M.system M.act σ w) r → AtMost (least_of (trace M.system M.act σ w)) r)
  order_least = Schedules.order_least M.system L.lawful L.ascend M.who M.dependent M.act L.by (steps_commute M L)

module _ (M : Model) (L : Laws M) (p : Program) (a : Admitted M p) where
  -- THE LEAST SCHEDULE with the graph of w is the least order of its steps
  pub least_with_graph : (w : Schedule) → Full M p w →
      Full M p (least_of M L.steps (actions M p w)) × (end_of M p (least_of M L.steps (actions M p w)) ≡ end_of M p w) ×
      ((r : Schedule) → Full M p r → graph M p r ≡ graph M p w → AtMost (least_of M L.steps (actions M p w)) r)
  least_with_graph w f =
      let o = order_least M L.steps (M.start p) w f in
      (o.0, o.1, λ r fr e. o.2 r ((L.program p a).same_graph r w fr f e))

-- A program is robust exactly when both machines have the same graphs of it. A robust program has the same outcomes under both.
use mathlib.Core.Path.{◌≡◌, refl, sym, ap, subst, ◌∙◌}
use mathlib.Core.Logic.{◌↔◌}
use mathlib.Core.Bool.{true}
use Rattle.spec_file.specs.Program.{Program}
use Rattle.spec_file.specs.WellFormed.{WellFormed}
use Rattle.spec_schedules.specs.Order.{Schedule}
use Rattle.spec_model.specs.Model.{Full, graph, failing}
use Rattle.spec_model.specs.Laws.{Admitted}
use Rattle.spec_model.proofs.Orders.{same_end}
use Rattle.spec_sc.specs.Graph.{Graph}
use Rattle.spec_sc.specs.Sequential.{sc}
use Rattle.spec_judge.specs.Consistent.{Consistent}
use Rattle.spec_judge.proofs.ConsistentIff.{consistent_iff}
use Rattle.spec_covers.specs.declared.outcome.Outcome.{Outcome}
use Rattle.spec_tso.specs.State.{State, memory_of, fails}
use Rattle.spec_tso.specs.TotalStoreOrder.{tso}
use Rattle.spec_tso.proofs.Laws.{tso_laws}
use Rattle.spec_across.specs.Under.{outcome_under, AttainsUnder, CoversUnder}
use Rattle.spec_across.specs.Robust.{Sequential, Robust, HasGraph}
use Rattle.spec_across.proofs.StoreOrder.{sc_schedule, tso_covers_sc}

module _ (p : Program) (w : WellFormed p) where
  -- consistent are exactly the graphs of sequential consistency
  pub consistent_graphs : (g : Graph) → Consistent p g ↔ HasGraph sc p g
  consistent_graphs g = (
    (λ c. let k = (consistent_iff p w g).0 c in (k.0, k.1.0, k.1.1)),
    λ k. (consistent_iff p w g).1 (k.0, (k.1, k.2)),
  )

  -- ROBUST EXACTLY WHEN the graphs of total store order are exactly those of sequential consistency
  pub robust_graphs : Robust p ↔ ((g : Graph) → HasGraph tso p g ↔ HasGraph sc p g)
  robust_graphs = (
    (λ r g. (
      (λ k. (consistent_graphs g).0 (subst (Consistent p) k.2 (r k.0 k.1))),
      λ k. let z = sc_schedule p w k.0 k.1 in (z.0, z.1, z.2 ∙ k.2),
    )),
    λ e s f. (consistent_graphs (graph tso p s)).1 ((e (graph tso p s)).0 (s, f, refl)),
  )

module _ (p : Program) (a : Admitted tso p) where
  -- ONE GRAPH, ONE OUTCOME across the two models
  pub same_graph_outcome : (z s : Schedule) → Full tso p z → Full sc p s → graph tso p z ≡ graph sc p s → outcome_under tso p z ≡ outcome_under sc p s
  unfolding outcome_under
  same_graph_outcome z s fz fs e =
      let r = sc_schedule p a.0 s fs in
      ap (λ (σ : State). let o : Outcome = record { memory = memory_of σ; fails = fails σ } in o) (same_end tso tso_laws p a z r.0 fz r.1 (e ∙ sym r.2))
      ∙ r.3

  -- a schedule with a consistent graph has an outcome of sequential consistency
  pub sequential_outcome : (z : Schedule) → Full tso p z → Sequential p z → AttainsUnder sc p (outcome_under tso p z)
  sequential_outcome z f c =
      let k = (consistent_graphs p a.0 (graph tso p z)).0 c in
      (k.0, k.1, sym (same_graph_outcome z k.0 f k.1 (sym k.2)))

  -- so a robust program under sequential consistency covers itself under total store order
  pub robust_covers : Robust p → CoversUnder sc p tso p
  robust_covers r o k = let c = sequential_outcome k.0 k.1 (r k.0 k.1) in (c.0, c.1, c.2 ∙ k.2)

  -- A ROBUST PROGRAM has the same outcomes under both
  pub robust_outcomes : Robust p → (o : Outcome) → AttainsUnder tso p o ↔ AttainsUnder sc p o
  robust_outcomes r o = (robust_covers r o, tso_covers_sc p a.0 o)

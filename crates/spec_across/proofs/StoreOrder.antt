-- Every program under total store order covers itself under sequential consistency: where each store is moved to memory at once, a schedule
-- ends as it does there.
use Prim.Native.Nat.{ℕ}
use mathlib.Core.Path.{◌≡◌, ap, ap₂, ◌∙◌}
use mathlib.Core.Bool.{Bool}
use mathlib.Core.List.{List}
use Rattle.spec_file.specs.Program.{Program}
use Rattle.spec_file.specs.WellFormed.{WellFormed}
use Rattle.spec_schedules.specs.Order.{Schedule}
use Rattle.spec_model.specs.Model.{Full, end_of, graph}
use Rattle.spec_sc.specs.State as SC
use Rattle.spec_sc.specs.Sequential.{sc}
use Rattle.spec_sc.proofs.Regular.{regular_start}
use Rattle.spec_covers.specs.declared.outcome.Outcome.{Outcome}
use Rattle.spec_tso.specs.State.{State, drained, start, fails, memory_of}
use Rattle.spec_tso.specs.Graph.{graph_of}
use Rattle.spec_tso.specs.TotalStoreOrder.{tso}
use Rattle.spec_tso.proofs.Sequential.{replayed}
use Rattle.spec_tso.proofs.Seen.{seen_drained, drained_graph}
use Rattle.spec_across.specs.Under.{outcome_under, CoversUnder}

abbrev outcome : List ℕ → Bool → Outcome
outcome m f = record { memory = m; fails = f }

-- ONE END: each full schedule of sequential consistency has one here that ends as it does, with nothing pending
pub sc_end : (p : Program) → WellFormed p → (s : Schedule) → Full sc p s → (z : Schedule) × Full tso p z × (end_of tso p z ≡ drained (end_of sc p s))
unfolding start
sc_end p w s f = replayed s (SC.start p) (regular_start p w) f

-- what is seen of a state with nothing pending
seen : (σ : SC.State) → outcome (memory_of (drained σ)) (fails (drained σ)) ≡ outcome (SC.memory_of σ) (SC.fails σ)
unfolding memory_of fails
seen σ = ap (λ (τ : SC.State). outcome (SC.memory_of τ) (SC.fails τ)) (seen_drained σ)

-- with its graph and its outcome
pub sc_schedule : (p : Program) → WellFormed p → (s : Schedule) → Full sc p s →
    (z : Schedule) × Full tso p z × (graph tso p z ≡ graph sc p s) × (outcome_under tso p z ≡ outcome_under sc p s)
unfolding outcome_under
sc_schedule p w s f =
    let r = sc_end p w s f in (
      r.0,
      r.1,
      ap graph_of r.2 ∙ drained_graph (end_of sc p s),
      ap (λ (τ : State). outcome (memory_of τ) (fails τ)) r.2 ∙ seen (end_of sc p s),
    )

-- UNDER TOTAL STORE ORDER A PROGRAM COVERS ITSELF under sequential consistency, also where 41 turns it away from the list
pub tso_covers_sc : (p : Program) → WellFormed p → CoversUnder tso p sc p
tso_covers_sc p w o a = let r = sc_schedule p w a.0 a.1 in (r.0, r.1, r.3 ∙ a.2)

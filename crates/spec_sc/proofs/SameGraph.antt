-- T3(b): two full schedules with one graph are orders of the same steps. The first step of the one can be pulled to the front of the other,
-- and so on; so both end in the same state, and the least order of the steps is the least schedule with that graph.
use mathlib.Core.Path.{◌≡◌, refl, sym, ap, subst, ◌∙◌}
use mathlib.Core.Bool.{true, true≢false}
use mathlib.Core.List.{List, [], ◌∷◌}
use Rattle.spec_file.specs.Program.{Program}
use Rattle.spec_file.specs.WellFormed.{WellFormed}
use Rattle.spec_schedules.specs.Order.{Schedule}
use Rattle.spec_schedules.specs.System.{run, ended, FullFrom}
use Rattle.spec_schedules.specs.Orders.{trace}
use Rattle.spec_schedules.proofs.Runs.{ended_none}
use Rattle.spec_schedules.proofs.Remaining as Ordered
use Rattle.spec_sc.specs.State.{State, step, start, SC}
use Rattle.spec_sc.specs.Graph.{graph_of, graph, Full, end_of}
use Rattle.spec_sc.specs.Actions.{Action, action, who, conflict}
use Rattle.spec_sc.proofs.ActionTerms.{actions}
use Rattle.spec_sc.proofs.Lawful.{lawful}
use Rattle.spec_sc.proofs.Orders.{Reorders, pulled, reorders_full}
use Rattle.spec_sc.proofs.Regular.{Regular, regular_step, regular_start}
use Rattle.spec_sc.proofs.FirstFits.{first_fits}

ended_nil : (w : Schedule) (σ : State) → ended SC σ ≡ true → FullFrom SC σ w → actions σ w ≡ []
unfolding trace
ended_nil [] σ e f = refl
ended_nil (a ∷ w) σ e f = absurd (true≢false (sym f.0 ∙ ended_none SC lawful σ a e))

-- every full schedule with the same graph is an order of the steps that keeps dependent ones in order
pub same_graph_reorders : (v w : Schedule) (σ : State) → Regular σ → FullFrom SC σ v → FullFrom SC σ w → graph_of (run SC σ v) ≡ graph_of (run SC σ w) → Reorders (actions σ w) v
unfolding run
same_graph_reorders [] w σ r fv fw e = ended_nil w σ fv fw
same_graph_reorders (t ∷ v) w σ r fv fw e =
    let k = first_fits σ r t v w fv fw e in
    let p = pulled w σ t (action σ t) fw k.0 k.1 in
    let o = same_graph_reorders v p.0 (step σ t) (regular_step σ t r fv.0) fv.1 p.1.1 (e ∙ ap graph_of (sym p.2)) in
    (Ordered.at_ready who conflict (actions σ w) t (action σ t) k.0 k.1, subst (λ (ds : List Action). Reorders ds v) p.3 o)

-- ONE GRAPH, ONE END
pub same_graph_end : (v w : Schedule) (σ : State) → Regular σ → FullFrom SC σ v → FullFrom SC σ w → graph_of (run SC σ v) ≡ graph_of (run SC σ w) → run SC σ v ≡ run SC σ w
same_graph_end v w σ r fv fw e = (reorders_full v w σ fw (same_graph_reorders v w σ r fv fw e)).1

-- at a program's start
pub one_graph_one_end : (p : Program) → WellFormed p → (v w : Schedule) → Full p v → Full p w → graph p v ≡ graph p w → end_of p v ≡ end_of p w
one_graph_one_end p wf v w fv fw e = same_graph_end v w (start p) (regular_start p wf) fv fw e

-- ONE GRAPH, THE SAME STEPS: of two full schedules with one graph the first step of the one can be pulled to the front of the other, and so
-- on. By the laws of every model both then end in the same state, and the least order of the steps is the least schedule with that graph.
use mathlib.Core.Path.{◌≡◌, refl, sym, ap, subst, ◌∙◌}
use mathlib.Core.Bool.{true, true≢false}
use mathlib.Core.List.{List, [], ◌∷◌}
use Rattle.spec_schedules.specs.Order.{Schedule}
use Rattle.spec_schedules.specs.System.{run, ended, FullFrom}
use Rattle.spec_schedules.specs.Orders.{trace}
use Rattle.spec_schedules.proofs.Runs.{ended_none}
use Rattle.spec_schedules.proofs.Remaining as Ordered
use Rattle.spec_tso.specs.State.{State, step, TSO}
use Rattle.spec_tso.specs.Graph.{graph_of}
use Rattle.spec_tso.specs.Actions.{Action, who, dependent}
use Rattle.spec_tso.proofs.ActionTerms.{actions}
use Rattle.spec_tso.proofs.Lawful.{lawful}
use Rattle.spec_tso.proofs.Orders.{Reorders, pulled}
use Rattle.spec_tso.proofs.Regular.{Regular, regular_step}
use Rattle.spec_tso.proofs.FirstFits.{first_fits}

ended_nil : (w : Schedule) (σ : State) → ended TSO σ ≡ true → FullFrom TSO σ w → actions σ w ≡ []
unfolding trace
ended_nil [] σ e f = refl
ended_nil (a ∷ w) σ e f = absurd (true≢false (sym f.0 ∙ ended_none TSO lawful σ a e))

-- (B) every full schedule with the same graph is an order of the steps that keeps dependent ones in order
pub same_graph_reorders : (v w : Schedule) (σ : State) → Regular σ → FullFrom TSO σ v → FullFrom TSO σ w → graph_of (run TSO σ v) ≡ graph_of (run TSO σ w) → Reorders (actions σ w) v
unfolding run
same_graph_reorders [] w σ r fv fw e = ended_nil w σ fv fw
same_graph_reorders (b ∷ v) w σ r fv fw e =
    let k = first_fits σ r b v w fv fw e in
    let p = pulled w σ b k.0 fw k.1 k.2 in
    let o = same_graph_reorders v p.0 (step σ b) (regular_step σ b r fv.0) fv.1 p.1.1 (e ∙ ap graph_of (sym p.2)) in
    (Ordered.at_ready who dependent (actions σ w) b k.0 k.1 k.2, subst (λ (ds : List Action). Reorders ds v) p.3 o)

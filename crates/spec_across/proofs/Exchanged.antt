-- Exchanging threads within their `02` lines keeps a graph consistent. So alike schedules of total store order are relaxed together, and a
-- program is robust exactly when no listed one is.
use Prim.Native.Nat.{ℕ, ◌<◌}
use mathlib.Core.Path.{◌≡◌, refl, sym, subst, ◌∙◌}
use mathlib.Core.Logic.{◌↔◌}
use native.Mathlib.Omega.{arith}
use lib.ListN.{length}
use Rattle.spec_file.specs.Program.{Program}
use Rattle.spec_file.specs.WellFormed.{WellFormed}
use Rattle.spec_schedules.specs.Order.{Schedule}
use Rattle.spec_model.specs.Exchange.{Exchange}
use Rattle.spec_model.specs.Model.{graph, moved_schedule}
use Rattle.spec_model.specs.Laws.{Admitted}
use Rattle.spec_model.specs.Alike.{Alike, Listed}
use Rattle.spec_model.proofs.Exchanges.{exchange_back}
use Rattle.spec_model.proofs.Exchanged.{exchanged, exchanged_graph}
use Rattle.spec_model.proofs.TheList.{list_exact, one_each}
use Rattle.spec_sc.specs.Graph.{Graph}
use Rattle.spec_sc.specs.Exchange.{Renames}
use Rattle.spec_sc.specs.Sequential.{sc}
use Rattle.spec_sc.proofs.ProgramGraphs as SC
use Rattle.spec_sc.proofs.Renaming.{renamed_once}
use Rattle.spec_sc.proofs.Laws.{sc_laws, within}
use Rattle.spec_judge.specs.Consistent.{Consistent}
use Rattle.spec_tso.specs.TotalStoreOrder.{tso}
use Rattle.spec_tso.proofs.Laws.{tso_laws}
use Rattle.spec_tso.proofs.Seen as TSO
use Rattle.spec_across.specs.Robust.{Sequential, Robust}
use Rattle.spec_across.proofs.Robust.{consistent_graphs}

module _ (p : Program) (w : WellFormed p) (π : ℕ → ℕ) (x : Exchange p π) (g h : Graph) (r : Renames π g h) (n : length h.reads ≡ length p.threads) where
  -- EXCHANGING THREADS KEEPS A GRAPH CONSISTENT: the exchanged schedule has the exchanged graph
  pub consistent_renamed : Consistent p g → Consistent p h
  consistent_renamed c =
      let k = (consistent_graphs p w g).0 c in
      let m = moved_schedule sc π k.0 in
      let i : Renames π g (graph sc p m) = subst (λ (q : Graph). Renames π q (graph sc p m)) k.2 (exchanged_graph sc sc_laws p (w, refl) π x k.0 k.1) in
      let rows = SC.graph_rows p m in
      let back : (t : ℕ) → t < length (graph sc p m).reads → x.0.inverse t < length g.reads =
      λ t b. omega (arith, c.canonical.rows, within p w x.0.inverse (exchange_back p π x) t (omega (arith, b, rows))) in
      (consistent_graphs p w h).1 (m, (exchanged sc sc_laws p (w, refl) π x k.0 k.1).0, renamed_once π x.0 g (graph sc p m) h (rows ∙ sym n) back i r)

-- where one of two alike schedules has a consistent graph so has the other
pub alike_sequential : (p : Program) → WellFormed p → (r s : Schedule) → Alike tso p r s → Sequential p r → Sequential p s
alike_sequential p w r s l = consistent_renamed p w l.0 l.1 (graph tso p r) (graph tso p s) l.2 (TSO.graph_rows p s)

-- ROBUST EXACTLY WHEN the graph of every listed schedule is consistent
pub robust_listed : (p : Program) → Admitted tso p → Robust p ↔ ((s : Schedule) → Listed tso p s → Sequential p s)
robust_listed p a = (
  (λ r s l. r s l.0),
  λ h s f. let c = one_each tso tso_laws p a s f in alike_sequential p a.0 c.0 s c.2 (h c.0 ((list_exact tso tso_laws p c.0).0 c.1)),
)

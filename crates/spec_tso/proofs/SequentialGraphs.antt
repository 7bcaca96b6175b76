-- EVERY SC GRAPH of a program that this listing accepts is the graph of some full schedule here. And 22 under total store order: exactly
-- where an output is shorter than 48 bytes.
use Prim.Native.Nat.{ℕ, ◌<◌}
use mathlib.Core.Path.{◌≡◌}
use mathlib.Core.Logic.{◌↔◌}
use mathlib.Core.List.{List}
use lib.ListN.{length}
use Rattle.spec_file.specs.Program.{Program}
use Rattle.spec_file.specs.Decode.{accepted, decode}
use Rattle.spec_schedules.specs.Order.{Schedule}
use Rattle.spec_model.specs.OnFile.{admit, violation_file}
use Rattle.spec_model.specs.Answers.{refused_by}
use Rattle.spec_model.proofs.Admitted.{listed_program, same_answer, same_violation}
use Rattle.spec_model.proofs.Violations.{violation_short}
use Rattle.spec_sc.specs.Graph as SC
use Rattle.spec_tso.specs.Graph.{Full, graph}
use Rattle.spec_tso.proofs.Sequential.{sc_graph}
use Rattle.spec_tso.specs.TotalStoreOrder.{tso}
use Rattle.spec_tso.proofs.Laws.{tso_laws}

module _ (file : List ℕ) (p : Program) (e : admit tso (decode file) ≡ accepted p) where
  pub sc_graph_here : (s : Schedule) → SC.Full p s → (z : Schedule) × Full p z × (graph p z ≡ SC.graph p s)
  sc_graph_here s f = sc_graph p (listed_program tso tso_laws file p e).0 s f

  pub short_48 : (out : List ℕ) → (violation_file tso file out ≡ (refused_by 22 0, out)) ↔ (length out < 48)
  short_48 out = same_answer (same_violation tso tso_laws file p e out) (violation_short tso p out)

-- Robustness schedule by schedule, by the calls alone: the text that the graph call of total store order writes is judged yes exactly when its
-- graph is consistent, and no exactly when it is not.
use Prim.Native.Nat.{ℕ, ◌≤◌}
use mathlib.Core.Path.{◌≡◌}
use mathlib.Core.Logic.{◌↔◌}
use mathlib.Core.List.{List}
use Rattle.spec_file.specs.Program.{Program}
use Rattle.spec_file.specs.Decode.{accepted, decode}
use Rattle.spec_schedules.specs.Order.{Schedule}
use Rattle.spec_model.specs.Model.{Full, graph}
use Rattle.spec_model.specs.OnFile.{admit}
use Rattle.spec_model.proofs.Admitted.{admitted, listed_program}
use Rattle.spec_sc.specs.Text.{graph_text}
use Rattle.spec_judge.specs.Answer.{consistent, inconsistent, Judgement}
use Rattle.spec_judge.proofs.Demand2.{demand_2}
use Rattle.spec_tso.specs.TotalStoreOrder.{tso}
use Rattle.spec_tso.proofs.Laws.{tso_laws}
use Rattle.spec_across.specs.Robust.{Sequential}
use Rattle.theory_across.proofs.Readable.{tso_text_read}

module _ (file : List ℕ) (p : Program) (e : admit tso (decode file) ≡ accepted p) (s : Schedule) (f : Full tso p s) (room : ℕ) (h : 24 ≤ room) where
  -- YES EXACTLY when the graph is consistent
  pub judged_sequential : ((r : Schedule) × Judgement file (graph_text (graph tso p s)) room (consistent r)) ↔ Sequential p s
  judged_sequential =
      (demand_2 file p (admitted tso (decode file) p e).0).yes_exactly (graph_text (graph tso p s)) room h (graph tso p s) (tso_text_read p (listed_program tso tso_laws file p e) s f)

  -- NO EXACTLY when it is not
  pub judged_relaxed : Judgement file (graph_text (graph tso p s)) room inconsistent ↔ (Sequential p s → ⊥)
  judged_relaxed =
      (demand_2 file p (admitted tso (decode file) p e).0).no_exactly (graph_text (graph tso p s)) room h (graph tso p s) (tso_text_read p (listed_program tso tso_laws file p e) s f)

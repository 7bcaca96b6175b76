-- SEQUENTIAL CONSISTENCY HAS THE LAWS of a memory model.
use Prim.Native.Nat.{ℕ, ◌<◌}
use mathlib.Core.Path.{◌≡◌, refl, sym, ap, ◌∙◌}
use mathlib.Core.Logic.{◌≢◌}
use mathlib.Core.Bool.{true, false}
use native.Mathlib.Omega.{arith}
use lib.ListN.{length}
use Rattle.spec_file.specs.Program.{Program}
use Rattle.spec_file.specs.WellFormed.{WellFormed}
use Rattle.spec_schedules.specs.Lists.{range}
use Rattle.spec_schedules.specs.Order.{Schedule}
use Rattle.spec_schedules.proofs.Lists.{range_length}
use Rattle.spec_model.specs.Exchange.{Permutation, Exchange}
use Rattle.spec_model.specs.Laws.{StepLaws, ExchangeLaws, ProgramLaws, Laws}
use Rattle.spec_model.proofs.Exchanges.{exchange_back}
use Rattle.spec_sc.specs.State.{State, SC, start}
use Rattle.spec_sc.specs.Actions.{action, who}
use Rattle.spec_sc.specs.Graph.{Graph, graph_of, end_of, graph}
use Rattle.spec_sc.specs.Exchange.{Moves, Renames}
use Rattle.spec_sc.proofs.Lawful.{lawful, names_ascend, start_24}
use Rattle.spec_sc.proofs.Steps.{enabled_small}
use Rattle.spec_sc.proofs.Start.{start_threads}
use Rattle.spec_sc.proofs.Regular.{regular_start}
use Rattle.spec_sc.proofs.Orders.{steps_commute, action_who}
use Rattle.spec_sc.proofs.SameGraph.{same_graph_reorders}
use Rattle.spec_sc.proofs.Exchange.{moves_enabled, moves_step, moves_ended, moves_graph, moves_memory}
use Rattle.spec_sc.proofs.ExchangedActions.{moves_action}
use Rattle.spec_sc.proofs.Permitted.{moves_start}
use Rattle.spec_sc.proofs.ProgramGraphs.{graph_rows}
use Rattle.spec_sc.proofs.Renaming.{renames_none, renames_back, renames_both, renamed_once}
use Rattle.spec_sc.proofs.Failing.{moves_fails}
use Rattle.spec_sc.proofs.Halted.{stays_failed}
use Rattle.spec_sc.specs.Sequential.{sc}
use Rattle.spec_sc.proofs.Renamed.{renames_true, true_renames}

step_laws : StepLaws sc
step_laws = record {
  lawful = lawful;
  ascend = names_ascend;
  named = let e = range_length 0 6 in omega arith;
  below = enabled_small;
  by = action_who;
  swap = λ σ a b ne m n c. (steps_commute σ a b ne m n c).0;
  waits = λ σ a b ne m n c. let r = steps_commute σ a b ne m n c in (r.1, r.2);
  renames_exact = λ π g h. (renames_true π g h, true_renames π g h);
  renames_none = renames_none;
}

exchange_laws : (π : ℕ → ℕ) → Permutation π → (σ τ : State) → Moves π σ τ → ExchangeLaws sc π σ τ
exchange_laws π q σ τ m = record {
  enabled = λ b e. moves_enabled π q σ τ m b ∙ e;
  step = moves_step π q σ τ m;
  act = λ b e. moves_action π q σ τ m b;
  ends = moves_ended π q σ τ m;
  graph = moves_graph π σ τ m;
  fails = moves_fails π q σ τ m;
  memory = moves_memory π σ τ m;
}

module _ (p : Program) (w : WellFormed p) where
  -- threads that exist move to threads that exist
  pub within : (π : ℕ → ℕ) → Exchange p π → (t : ℕ) → t < length p.threads → π t < length p.threads
  within π x t h = let a = start_threads p in let b = (moves_start p w π x.1).within t (omega arith) in omega arith

  -- a row of reads for each thread
  rows_of : (s : Schedule) → length (graph_of (end_of p s)).reads ≡ length p.threads
  rows_of s = graph_rows p s

  -- rows of reads move to rows of reads
  rows : (π : ℕ → ℕ) → Exchange p π → (a b : Schedule) (t : ℕ) → t < length (graph_of (end_of p a)).reads → π t < length (graph_of (end_of p b)).reads
  rows π x a b t h = let i = rows_of a in let j = rows_of b in let k = within π x t (omega arith) in omega arith

  program_laws : ProgramLaws sc p
  program_laws = record {
    bound = start_24 p w;
    room = omega arith;
    start = λ π x. moves_start p w π x.1;
    renames_back = λ π x a b. renames_back π x.0 (graph_of (end_of p a)) (graph_of (end_of p b)) (rows x.0.inverse (exchange_back p π x) b a);
    renames_both = λ ρ π y x a b c. renames_both ρ π (graph_of (end_of p a)) (graph_of (end_of p b)) (graph_of (end_of p c)) (rows π x a b);
    renamed_once = λ π x a b c. renamed_once π x.0 (graph_of (end_of p a)) (graph_of (end_of p b)) (graph_of (end_of p c)) (rows_of b ∙ sym (rows_of c)) (rows x.0.inverse (exchange_back p π x) b a);
    same_graph = λ v u fv fu e. same_graph_reorders v u (start p) (regular_start p w) fv fu e;
    stays_failed = λ s b a m e. stays_failed p s b a m e;
  }

pub sc_laws : Laws sc
sc_laws = record { steps = step_laws; exchange = exchange_laws; program = λ p a. program_laws p a.0 }

-- TOTAL STORE ORDER HAS THE LAWS of a memory model.
use Prim.Native.Nat.{ℕ, ◌<◌, ◌≤◌}
use mathlib.Core.Path.{◌≡◌, refl, sym, ◌∙◌}
use mathlib.Core.Bool.{Bool, true, false}
use mathlib.Core.Option.{none, some}
use native.Mathlib.Omega.{arith}
use borrow.Author.Tests.{ltb-false}
use lib.Dec.{ltb}
use lib.ListN.{length, length-append}
use Rattle.spec_file.specs.Program.{Program}
use Rattle.spec_file.specs.WellFormed.{WellFormed, all_accesses}
use Rattle.spec_schedules.specs.Lists.{range}
use Rattle.spec_schedules.specs.Order.{Schedule}
use Rattle.spec_schedules.proofs.Lists.{range_length}
use Rattle.spec_model.specs.Exchange.{Permutation, Exchange}
use Rattle.spec_model.specs.Laws.{StepLaws, ExchangeLaws, ProgramLaws, Laws}
use Rattle.spec_model.proofs.Exchanges.{exchange_back}
use Rattle.spec_sc.proofs.Renaming.{renames_none, renames_back, renames_both, renamed_once}
use Rattle.spec_sc.proofs.Renamed.{renames_true, true_renames}
use Rattle.spec_tso.specs.State.{State, start}
use Rattle.spec_tso.specs.Graph.{graph}
use Rattle.spec_tso.specs.Exchange.{Moves}
use Rattle.spec_tso.proofs.Lawful.{lawful, names_ascend, enabled_below, start_32}
use Rattle.spec_tso.proofs.Orders.{action_who, swap}
use Rattle.spec_tso.proofs.Seen.{graph_rows, start_threads, moves_graph, moves_fails, moves_memory}
use Rattle.spec_tso.proofs.Exchange.{moves_enabled, moves_step, moves_ended}
use Rattle.spec_tso.proofs.ExchangedActions.{moves_action}
use Rattle.spec_tso.proofs.Permitted.{moves_start}
use Rattle.spec_tso.proofs.Regular.{regular_start}
use Rattle.spec_tso.proofs.SameGraph.{same_graph_reorders}
use Rattle.spec_tso.proofs.Failing.{stays_failed}
use Rattle.spec_tso.specs.TotalStoreOrder.{too_many, tso}

step_laws : StepLaws tso
step_laws = record {
  lawful = lawful;
  ascend = names_ascend;
  named = let e = range_length 0 6 in let f = length-append (range 0 6) (range 16 6) in omega arith;
  below = enabled_below;
  by = action_who;
  swap = λ σ a b ne m n c. (swap σ a b ne m n c).0;
  waits = λ σ a b ne m n c. let r = swap σ a b ne m n c in (r.1, r.2);
  renames_exact = λ π g h. (renames_true π g h, true_renames π g h);
  renames_none = renames_none;
}

exchange_laws : (π : ℕ → ℕ) → Permutation π → (σ τ : State) → Moves π σ τ → ExchangeLaws tso π σ τ
exchange_laws π q σ τ m = record {
  enabled = λ b e. moves_enabled π q σ τ m b ∙ e;
  step = moves_step π q σ τ m;
  act = λ b e. moves_action π q σ τ m b;
  ends = moves_ended π q σ τ m;
  graph = moves_graph π σ τ m;
  fails = moves_fails π q σ τ m;
  memory = moves_memory π σ τ m;
}

-- what is not turned away has at most 16 accesses
pub at_most_16 : (p : Program) → too_many p ≡ none → all_accesses p.threads ≤ 16
unfolding too_many
at_most_16 p e = go (ltb 16 (all_accesses p.threads)) refl
  where
    go : (b : Bool) → ltb 16 (all_accesses p.threads) ≡ b → all_accesses p.threads ≤ 16
    go true q = absurd (let k : some (41, 0) ≡ none = sym (rw (q, too_many)) ∙ e in let z : ◌≡◌ {A = ℕ} 0 1 = cc in omega arith)
    go false q = omega (arith, ltb-false 16 (all_accesses p.threads) q)

module _ (p : Program) (w : WellFormed p) where
  -- threads that exist move to threads that exist
  pub within : (π : ℕ → ℕ) → Exchange p π → (t : ℕ) → t < length p.threads → π t < length p.threads
  within π x t h = let a = start_threads p in let b = (moves_start p w π x.1).within t (omega arith) in omega arith

  -- rows of reads move to rows of reads
  rows : (π : ℕ → ℕ) → Exchange p π → (a b : Schedule) (t : ℕ) → t < length (graph p a).reads → π t < length (graph p b).reads
  rows π x a b t h = let i = graph_rows p a in let j = graph_rows p b in let k = within π x t (omega arith) in omega arith

  program_laws : all_accesses p.threads ≤ 16 → ProgramLaws tso p
  program_laws few = record {
    bound = start_32 p few;
    room = omega arith;
    start = λ π x. moves_start p w π x.1;
    renames_back = λ π x a b. renames_back π x.0 (graph p a) (graph p b) (rows x.0.inverse (exchange_back p π x) b a);
    renames_both = λ ρ π y x a b c. renames_both ρ π (graph p a) (graph p b) (graph p c) (rows π x a b);
    renamed_once = λ π x a b c. renamed_once π x.0 (graph p a) (graph p b) (graph p c) (graph_rows p b ∙ sym (graph_rows p c)) (rows x.0.inverse (exchange_back p π x) b a);
    same_graph = λ v u fv fu e. same_graph_reorders v u (start p) (regular_start p w) fv fu e;
    stays_failed = λ s b a m e. stays_failed p w s b a m e;
  }

pub tso_laws : Laws tso
tso_laws = record { steps = step_laws; exchange = exchange_laws; program = λ p a. program_laws p a.0 (at_most_16 p a.1) }

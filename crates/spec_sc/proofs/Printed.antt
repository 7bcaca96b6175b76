-- The graphs of a well-formed program's full schedules are printable: every number in them is a byte, so their texts tell them apart.
use Prim.Native.Nat.{ℕ, ◌≤◌}
use mathlib.Core.Path.{◌≡◌, ap, subst, ◌∙◌}
use mathlib.Core.Logic.{◌⊎◌, inl, inr}
use mathlib.Core.List.{Memᴰ}
use native.Mathlib.Omega.{arith}
use lib.ListN.{length}
use Rattle.spec_file.specs.Program.{Program}
use Rattle.spec_file.specs.WellFormed.{WellFormed}
use Rattle.spec_schedules.specs.Order.{Schedule}
use Rattle.spec_schedules.specs.System.{Allowed}
use Rattle.spec_schedules.proofs.Runs.{full_allowed}
use Rattle.spec_sc.specs.State.{Event, initial_write, thread_of, cell_of, SC, start}
use Rattle.spec_sc.specs.Graph.{graph, Full, end_of}
use Rattle.spec_sc.specs.Text.{graph_text}
use Rattle.spec_sc.proofs.Steps.{run_threads, run_cells}
use Rattle.spec_sc.proofs.Lawful.{at_most_24}
use Rattle.spec_sc.proofs.Start.{start_threads, start_cells, start_history}
use Rattle.spec_sc.proofs.Regular.{Regular, Written, regular_run, regular_start}
use Rattle.spec_sc.proofs.Text.{EventByte, Printable, text_injective}
use Rattle.spec_sc.proofs.Rows.{row_at, order_at, graph_sizes}
use Rattle.spec_sc.proofs.Histories.{done_exists, done_length}

initial_byte : (e : Event) → e ≡ initial_write → EventByte e
unfolding initial_write
initial_byte e q = let a = ap (λ (x : Event). x.0) q in let b = ap (λ (x : Event). x.1) q in (omega arith, omega arith)

module _ (p : Program) (w : WellFormed p) (s : Schedule) (f : Full p s) where
  allowed : Allowed SC (start p) s
  allowed = (full_allowed SC (start p) s f).0

  regular : Regular (end_of p s)
  regular = regular_run s (start p) (regular_start p w) allowed

  done_24 : (u : ℕ) → (thread_of (end_of p s) u).history.done ≤ 24
  done_24 u = omega (arith, done_length s (start p) allowed u, (start_history p u).0, at_most_24 p w s f)

  write_byte : (l : ℕ) (e : Event) → Memᴰ e (cell_of (end_of p s) l).writes → EventByte e
  write_byte l e m =
      let a = regular.old l e m in
      let b = done_exists (end_of p s) e a in
      let c = regular.six in
      let d = done_24 e.0 in
      (omega arith, omega arith)

  source_byte : (e : Event) → (e ≡ initial_write) ⊎ Written (end_of p s) e → EventByte e
  source_byte e (inl q) = initial_byte e q
  source_byte e (inr k) = write_byte k.0 e k.1

  pub printable : Printable (length p.threads) (graph p s)
  printable = record {
    rows = (graph_sizes (end_of p s)).0 ∙ run_threads s (start p) ∙ start_threads p;
    eight = (graph_sizes (end_of p s)).1 ∙ run_cells s (start p) ∙ start_cells p w;
    few = omega (arith, w.six);
    reads = λ t r m. let k = subst (Memᴰ r) (row_at (end_of p s) t) m in (omega (arith, regular.numbered t r k, done_24 t), source_byte r.1 (regular.sourced t r k));
    writes = λ l e m. write_byte l e (subst (Memᴰ e) (order_at (end_of p s) l) m);
  }

-- the graphs of a program's full schedules have different texts if they differ
pub graph_text_injective : (p : Program) → WellFormed p → (v w : Schedule) → Full p v → Full p w → graph_text (graph p v) ≡ graph_text (graph p w) → graph p v ≡ graph p w
graph_text_injective p wf v w fv fw e = text_injective (length p.threads) (graph p v) (graph p w) (printable p wf v fv) (printable p wf w fw) e

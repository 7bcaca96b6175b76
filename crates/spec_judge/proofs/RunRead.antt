-- The graph of a full schedule is readable, so its text is read back as that graph.
use mathlib.Core.Path.{◌≡◌, refl, sym, subst, ◌∙◌}
use mathlib.Core.Logic.{◌⊎◌, inl, inr}
use mathlib.Core.List.{Memᴰ}
use native.Mathlib.Omega.{arith}
use lib.ListN.{length}
use Rattle.spec_file.specs.Program.{Program}
use Rattle.spec_file.specs.WellFormed.{WellFormed}
use Rattle.spec_schedules.specs.Order.{Schedule}
use Rattle.spec_schedules.specs.System.{Allowed}
use Rattle.spec_schedules.proofs.Runs.{full_allowed}
use Rattle.spec_sc.specs.State.{Event, initial_write, SC, start}
use Rattle.spec_sc.specs.Graph.{graph, end_of, Full}
use Rattle.spec_sc.specs.Text.{graph_text}
use Rattle.spec_sc.proofs.Steps.{run_threads}
use Rattle.spec_sc.proofs.Start.{start_threads}
use Rattle.spec_sc.proofs.Regular.{Written, Regular, regular_run, regular_start}
use Rattle.spec_sc.proofs.Histories.{Done, done_exists}
use Rattle.spec_sc.proofs.Rows.{row_at, order_at}
use Rattle.spec_judge.specs.Consistent.{Canonical, Makes}
use Rattle.spec_judge.proofs.RoundValues.{values}
use Rattle.spec_judge.specs.Reading.{parsed, read_graph}
use Rattle.spec_judge.proofs.AccessCount.{done_16}
use Rattle.spec_judge.proofs.Rounds.{run_canonical}
use Rattle.spec_judge.proofs.ConsistentIff.{run_makes}
use Rattle.spec_judge.proofs.Readable.{Named, Source, Readable}
use Rattle.spec_judge.proofs.RoundTrip.{text_read}

module _ (p : Program) (wf : WellFormed p) (s : Schedule) (f : Full p s) where
  allowed : Allowed SC (start p) s
  allowed = (full_allowed SC (start p) s f).0

  regular : Regular (end_of p s)
  regular = regular_run s (start p) (regular_start p wf) allowed

  canonical : Canonical p (graph p s)
  canonical = run_canonical p wf (graph p s) s (f, refl)

  makes : Makes p (graph p s) (values p (graph p s) (length s))
  makes = run_makes p wf (graph p s) s (length s) (f, refl) (omega arith)

  done_named : (e : Event) → Done (end_of p s) e → Named (length p.threads) e
  done_named e d = (omega (arith, done_exists (end_of p s) e d, run_threads s (start p), start_threads p), omega (arith, done_16 p wf s allowed e.0))

  source_named : (e : Event) → (e ≡ initial_write) ⊎ Written (end_of p s) e → Source (length p.threads) e
  source_named e (inl q) = inl q
  source_named e (inr w) = inr (done_named e (regular.old w.0 e w.1))

  pub run_readable : Readable (length p.threads) (graph p s)
  run_readable = record {
    rows = canonical.rows;
    lists = canonical.lists;
    ordered = canonical.ordered;
    once = canonical.once;
    apart = λ l k e a b. sym ((makes.writes l e).0 a).0 ∙ ((makes.writes k e).0 b).0;
    reads = λ t r m. let j = subst (Memᴰ r) (row_at (end_of p s) t) m in
        (omega (arith, regular.numbered t r j, done_16 p wf s allowed t), source_named r.1 (regular.sourced t r j));
    writes = λ l e m. done_named e (regular.old l e (subst (Memᴰ e) (order_at (end_of p s) l) m));
  }

  -- ROUND TRIP: reading a full schedule's graph text gives its graph
  pub run_text_read : read_graph (length p.threads) (graph_text (graph p s)) ≡ parsed (graph p s)
  run_text_read = text_read (length p.threads) wf.six (graph p s) run_readable

-- The text of a graph of total store order, consistent or not, is read back as that graph, so that the judge may be asked of it.
use Prim.Native.Nat.{ℕ, ◌<◌, ◌≤◌}
use mathlib.Core.Path.{◌≡◌, refl, sym, ap, subst, ◌∙◌}
use mathlib.Core.Logic.{inl, inr, ⊎_elim}
use mathlib.Core.List.Memᴰ
use mathlib.Core.List.{List, [], ◌∷◌, Memᴰ}
use native.Mathlib.Omega.{arith}
use native.Mathlib.Decide.{dec_lt}
use lib.ListN.{length}
use Rattle.spec_file.specs.Program.{Program}
use Rattle.spec_schedules.specs.Order.{Schedule}
use Rattle.spec_schedules.specs.System.{Allowed}
use Rattle.spec_schedules.specs.Lists.{Distinct}
use Rattle.spec_schedules.proofs.Runs.{full_allowed}
use Rattle.spec_model.specs.Model.{Full, graph, end_of}
use Rattle.spec_model.specs.Laws.{Admitted}
use Rattle.spec_sc.specs.State as SC
use Rattle.spec_sc.specs.State.{Event, Cell}
use Rattle.spec_sc.specs.Text.{graph_text}
use Rattle.spec_sc.proofs.Rows.{row_at, order_at, graph_sizes}
use Rattle.spec_judge.specs.Consistent.{row_of, order_of, Descends}
use Rattle.spec_judge.specs.Reading.{parsed, read_graph}
use Rattle.spec_judge.proofs.Readable.{Named, Source, Readable}
use Rattle.spec_judge.proofs.RoundTrip.{text_read}
use Rattle.spec_tso.specs.State.{Thread, State, no_thread, thread_of, cell_of, idle, unqueued, without_queues, start, TSO}
use Rattle.spec_tso.specs.Graph.{graph_of}
use Rattle.spec_tso.specs.TotalStoreOrder.{tso}
use Rattle.spec_tso.proofs.Steps.{missing}
use Rattle.spec_tso.proofs.Seen.{seen_thread, seen_cell, graph_rows, run_threads, start_threads}
use Rattle.spec_tso.proofs.StoreOrder.{within_le}
use Rattle.spec_tso.proofs.Values.{Old}
use Rattle.spec_tso.proofs.Regular.{Regular, regular_start, regular_run}
use Rattle.spec_tso.proofs.Laws.{at_most_16}
use Rattle.theory_tso.proofs.ReadWords.{Numbered}
use Rattle.theory_tso.proofs.Kept.{Kept, kept}
use Rattle.theory_tso.proofs.Small.{done_16}
use Rattle.theory_across.proofs.Separate.{Separate, separate}

-- numbered reads descend
numbered_below : (n : ℕ) (rs : List (ℕ × Event)) → Numbered n rs → (r : ℕ × Event) → Memᴰ r rs → r.0 < n
numbered_below n [] N r m = absurd (Memᴰ.not-nil m)
numbered_below n (x ∷ rs) N r m =
    ⊎_elim (λ (q : r ≡ x). omega (arith, N.0, ap (λ (y : ℕ × Event). y.0) q)) (λ (k : Memᴰ r rs). omega (arith, N.0, numbered_below x.0 rs N.1 r k))
    (Memᴰ.cases_cons m)

numbered_descends : (n : ℕ) (rs : List (ℕ × Event)) → Numbered n rs → Descends rs
numbered_descends n [] N = tt
numbered_descends n (x ∷ rs) N = (numbered_below x.0 rs N.1, numbered_descends x.0 rs N.1)

-- a thread that is not there has done nothing
none_done : no_thread.history.done ≡ 0
unfolding no_thread idle SC.no_thread
none_done = refl

module _ (p : Program) (a : Admitted tso p) (s : Schedule) (f : Full tso p s) where
  abbrev σ : State
  σ = end_of tso p s

  allowed : Allowed TSO (start p) s
  allowed = (full_allowed TSO (start p) s f).0

  regular : Regular σ
  regular = regular_run s (start p) (regular_start p a.0) allowed

  keeps : Kept (start p) σ
  keeps = kept p a.0 s allowed

  apart : Separate σ
  apart = separate p a.0 s allowed

  few : (t : ℕ) → (thread_of σ t).history.done ≤ 16
  few t = done_16 p a.0 (at_most_16 p a.1) s allowed t

  row_is : (t : ℕ) → row_of (graph tso p s) t ≡ (thread_of σ t).history.reads
  unfolding graph_of unqueued
  row_is t = row_at (without_queues σ) t ∙ ap (λ (h : SC.Thread). h.history.reads) (seen_thread σ t)

  order_is : (l : ℕ) → order_of (graph tso p s) l ≡ (cell_of σ l).writes
  unfolding graph_of
  order_is l = order_at (without_queues σ) l ∙ ap (λ (c : Cell). c.writes) (seen_cell σ l)

  eight : length (graph tso p s).writes ≡ 8
  unfolding graph_of without_queues
  eight = (graph_sizes (without_queues σ)).1 ∙ regular.eight

  -- an event that was done is that of a thread of the program, and has one of the first sixteen numbers
  done_named : (e : Event) → e.1 < (thread_of σ e.0).history.done → Named (length p.threads) e
  done_named e h = (go (dec_lt e.0 (length p.threads)), omega (arith, h, few e.0))
    where
      go : Dec (e.0 < length p.threads) → e.0 < length p.threads
      go (yes k) = k
      go (no k) = absurd (omega (
        arith,
        h,
        ap (λ (x : Thread). x.history.done) (missing σ e.0 (omega (arith, k, run_threads s (start p), start_threads p))),
        none_done,
      ))

  known_named : (e : Event) → Old σ e → Source (length p.threads) e
  known_named e (inl q) = inl q
  known_named e (inr h) = inr (done_named e h)

  written_named : (l : ℕ) (e : Event) → Memᴰ e (cell_of σ l).writes → Named (length p.threads) e
  written_named l e m =
      let s = regular.stores e.0 in
      done_named e (omega (arith, s.below l e m refl, within_le s.floor (thread_of σ e.0).queue (thread_of σ e.0).history.done s.within))

  pub tso_readable : Readable (length p.threads) (graph tso p s)
  tso_readable = record {
    rows = graph_rows p s;
    lists = eight;
    ordered = λ t. subst Descends (sym (row_is t)) (numbered_descends (thread_of σ t).history.done (thread_of σ t).history.reads (keeps.numbered t));
    once = λ l. subst Distinct (sym (order_is l)) (apart.once l);
    apart = λ l k e i j. apart.apart l k e (subst (Memᴰ e) (order_is l) i) (subst (Memᴰ e) (order_is k) j);
    reads = λ t r m.
        let i = subst (Memᴰ r) (row_is t) m in
        (omega (arith, numbered_below (thread_of σ t).history.done (thread_of σ t).history.reads (keeps.numbered t) r i, few t), known_named r.1 (keeps.known t r i));
    writes = λ l e m. written_named l e (subst (Memᴰ e) (order_is l) m);
  }

  -- ROUND TRIP: reading the text of a full schedule's graph gives that graph
  pub tso_text_read : read_graph (length p.threads) (graph_text (graph tso p s)) ≡ parsed (graph tso p s)
  tso_text_read = text_read (length p.threads) a.0.six (graph tso p s) tso_readable

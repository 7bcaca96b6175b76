-- What a schedule that was carried out leaves, in each memory model.
use Prim.Native.Nat.{ℕ, ◌≤◌}
use mathlib.Core.Path.{◌≡◌, sym, ap, subst, ◌∙◌}
use mathlib.Core.List.{List, reverse}
use native.Mathlib.Omega.{arith}
use lib.ListN.{length, take}
use lib.Seq.{length-take-le}
use Rattle.std.specs.Prelude.{Ok}
use Rattle.spec_file.specs.Program.{Program}
use Rattle.spec_file.specs.WellFormed.{WellFormed, all_accesses}
use Rattle.spec_schedules.specs.Order.{Schedule}
use Rattle.spec_schedules.specs.System.{Allowed}
use Rattle.spec_sc.specs.State.{SC, start}
use Rattle.spec_sc.specs.Graph.{end_of}
use Rattle.spec_sc.proofs.Rows.{row_at, order_at}
use Rattle.graph_writer.specs.Notes.{Note, notes, Noted}
use Rattle.graph_writer.specs.NoteText.{notes_at}
use Rattle.graph_writer.proofs.NoteGraph.{notes_length, thread_notes, cell_notes, graph_text_notes}
use Rattle.graph_writer.proofs.NotesHeld.{notes_held}
use Rattle.machine_replay.specs.declared.replaying.Run.{Run}
use Rattle.machine_replay.specs.Carried.{HoldsRun}
use Rattle.machine_replay.proofs.Verdicts.{verdict_refuses}
use Rattle.spec_tso.specs.State as Queues
use Rattle.spec_tso.specs.Graph as QueueGraph
use Rattle.tso_replay.specs.declared.replaying.Run as QueueRun
use Rattle.tso_replay.specs.Noted as Noting
use Rattle.tso_replay.specs.Carried as QueueCarried
use Rattle.tso_replay.proofs.NotesHere as Here
use Rattle.tso_replay.proofs.FewNotes.{notes_16}
use Rattle.listing_model.specs.declared.memory.Model.TheVariants.{Sequential, TotalStoreOrder}
use Rattle.listing_replay.specs.Replays.{graph_in, NotesOf, Replays}

-- the first notes of a log are those that it holds
kept : (log : List ℕ) (n : ℕ) (ns : List Note) → Noted log ns → n ≡ length ns → ns ≡ notes_at log n
kept log n ns h e = sym (ap (notes_at log) e ∙ notes_held log ns h)

module _ (p : Program) (w : WellFormed p) (s : Schedule) (code lengths : List ℕ) where
  -- UNDER SEQUENTIAL CONSISTENCY
  module _ (r : Run) (held : HoldsRun code lengths p s r) where
    few_steps : r.steps ≤ 24
    few_steps = omega (arith, held.noted.most, notes_length (take r.steps s) (start p), length-take-le r.steps s held.counted)

    module _ (whole : r.end ≡ Ok tt) where
      log_holds : Noted r.log (notes (start p) s)
      log_holds = subst (λ (z : Schedule). Noted r.log (notes (start p) z)) (held.all whole) held.noted

      are_notes : notes (start p) s ≡ notes_at r.log r.steps
      are_notes =
          let e = sym (ap length (held.all whole)) ∙ length-take-le r.steps s held.counted in
          kept r.log r.steps (notes (start p) s) log_holds (sym e ∙ sym (notes_length s (start p)))

      say_graph : NotesOf (graph_in Sequential p s) (notes (start p) s)
      say_graph =
          let allowed = subst (Allowed SC (start p)) (held.all whole) held.allowed in
          record {
            writes = λ l. sym (cell_notes p w s allowed l) ∙ ap reverse (sym (order_at (end_of p s) l));
            reads = λ t. sym (thread_notes p s allowed t) ∙ ap reverse (sym (row_at (end_of p s) t));
            text = sym (graph_text_notes p w s allowed);
          }

    pub sequences_replay : Replays Sequential p s (record { end = r.end; log = r.log; notes = r.steps })
    sequences_replay = record {
      answer = verdict_refuses code lengths p s r held;
      few = few_steps;
      noted = λ e. subst (Noted r.log) (are_notes e) (log_holds e);
      graph = λ e. subst (NotesOf (graph_in Sequential p s)) (are_notes e) (say_graph e);
    }

  -- UNDER TOTAL STORE ORDER
  module _ (few : all_accesses p.threads ≤ 16) (r : QueueRun.Run) (held : QueueCarried.HoldsRun code lengths p s r) where
    module _ (whole : r.end ≡ Ok tt) where
      stores_holds : Noted r.log (Noting.notes (Queues.start p) s)
      stores_holds = subst (λ (z : Schedule). Noted r.log (Noting.notes (Queues.start p) z)) (held.all whole) held.noted

      stores_are : Noting.notes (Queues.start p) s ≡ notes_at r.log r.notes
      stores_are =
          kept r.log r.notes (Noting.notes (Queues.start p) s) stores_holds
          (held.notes_counted ∙ ap (λ (z : Schedule). length (Noting.notes (Queues.start p) z)) (held.all whole))

      stores_graph : NotesOf (graph_in TotalStoreOrder p s) (Noting.notes (Queues.start p) s)
      unfolding QueueGraph.graph_of
      stores_graph =
          let allowed = subst (Allowed Queues.TSO (Queues.start p)) (held.all whole) held.allowed in
          let end = Queues.without_queues (QueueGraph.end_of p s) in
          record {
            writes = λ l. sym (Here.seen_orders p w s allowed l) ∙ ap reverse (sym (order_at end l));
            reads = λ t. sym (Here.seen_reads p w s allowed t) ∙ ap reverse (sym (row_at end t));
            text = sym (Here.graph_text_notes p w s allowed);
          }

    pub stores_replay : Replays TotalStoreOrder p s (record { end = r.end; log = r.log; notes = r.notes })
    stores_replay = record {
      answer = held.answer;
      few = omega (arith, held.notes_counted, notes_16 p few (take r.steps s) held.allowed);
      noted = λ e. subst (Noted r.log) (stores_are e) (stores_holds e);
      graph = λ e. subst (NotesOf (graph_in TotalStoreOrder p s)) (stores_are e) (stores_graph e);
    }

-- The graph of a full schedule of total store order, as the code has it: its text is written, read back into a table, and judged.
use Rattle.std.specs.Prelude.{Option, Some, None, is_some, Result, Ok, Err, IsOk}
use Prim.Native.Nat.{ℕ, ◌≤◌}
use mathlib.Core.Path.{◌≡◌, refl, sym, ap, ap₂, subst, ◌∙◌}
use mathlib.Core.Bool.{Bool, true, false, not}
use mathlib.Core.List.{List}
use native.Mathlib.Omega.{arith}
use lib.ListN.{length, take}
use Rattle.spec_file.specs.declared.refusal.Refusal.{Refusal}
use Rattle.spec_file.specs.Over.{over}
use Rattle.spec_file.specs.Program.{Program}
use Rattle.spec_file.proofs.Over.{take_over, length_over}
use Rattle.spec_schedules.specs.Order.{Schedule}
use Rattle.spec_schedules.specs.System.{Allowed}
use Rattle.spec_schedules.proofs.Runs.{full_allowed}
use Rattle.spec_model.specs.Laws.{Admitted}
use Rattle.spec_model.specs.Model.{Full, graph}
use Rattle.spec_model.proofs.Refusing.{full_goes}
use Rattle.spec_sc.specs.Text.{graph_text, text_of}
use Rattle.spec_judge.specs.Reading.{parsed, refused_at, read_graph}
use Rattle.spec_judge.proofs.Walk.{judge}
use Rattle.spec_tso.specs.State.{TSO, start}
use Rattle.spec_tso.specs.TotalStoreOrder.{tso}
use Rattle.spec_tso.proofs.Laws.{at_most_16}
use Rattle.spec_across.proofs.Relaxed.{is_no, is_relaxed}
use Rattle.theory_across.proofs.Readable.{tso_text_read}
use Rattle.graph_writer.specs.Notes.{Note, Noted}
use Rattle.graph_writer.specs.NoteText.{note_frames}
use Rattle.graph_writer.proofs.NoteLength.{notes_400}
use Rattle.graph_reader.specs.declared.table.Table.{Table}
use Rattle.graph_reader.specs.Held.{Tabled, ReadAs}
use Rattle.listing_cursor.specs.declared.steps.Steps.{Steps}
use Rattle.judge.specs.HeldYes.{JudgedAs}
use Rattle.outcome_lists.proofs.Replays.{whole_of}
use Rattle.tso_replay.specs.declared.replaying.Run.{Run}
use Rattle.tso_replay.specs.Carried.{HoldsRun}
use Rattle.tso_replay.specs.Noted.{notes}
use Rattle.tso_replay.proofs.NotesHere.{graph_text_notes}
use Rattle.tso_replay.proofs.FewNotes.{notes_16}

module _ (p : Program) (a : Admitted tso p) (s : Schedule) (f : Full tso p s) (code lengths : List ℕ) (r : Run) (held : HoldsRun code lengths p s r) where
  made : take r.steps s ≡ s
  made = held.all (whole_of r.end (held.answer ∙ full_goes TSO s 0 (start p) f))

  allowed : Allowed TSO (start p) s
  allowed = (full_allowed TSO (start p) s f).0

  noted : Noted r.log (notes (start p) s)
  noted = subst (λ (z : Schedule). Noted r.log (notes (start p) z)) made held.noted

  counted : length (notes (start p) s) ≡ r.notes
  counted = sym (held.notes_counted ∙ ap (λ (z : Schedule). length (notes (start p) z)) made)

  pub few_notes : r.notes ≤ 24
  few_notes = omega (arith, counted, notes_16 p (at_most_16 p a.1) s allowed)

  -- the text that was written over a buffer of 512 bytes
  module _ (n : ℕ) (zeros text : List ℕ) (size : length zeros ≡ 512)
      (wrote : (ns : List Note) → Noted r.log ns → length ns ≡ r.notes → (n ≡ length (text_of (note_frames ns))) × (text ≡ over (text_of (note_frames ns)) zeros)) where
    abbrev T : List ℕ
    T = text_of (note_frames (notes (start p) s))

    short : length T ≤ 400
    short = notes_400 (notes (start p) s) (omega (arith, counted, few_notes))

    pub text_within : n ≤ length text
    text_within =
        let g = wrote (notes (start p) s) noted counted in
        omega (arith, g.0, short, ap length g.1, length_over T zeros (omega (arith, short, size)), size)

    pub text_is : take n text ≡ graph_text (graph tso p s)
    text_is =
        let g = wrote (notes (start p) s) noted counted in
        ap₂ take g.0 g.1 ∙ take_over T zeros ∙ sym (graph_text_notes p a.0 s allowed)

-- what was read of it is a table of the graph
module _ (p : Program) (a : Admitted tso p) (s : Schedule) (f : Full tso p s) (threads : ℕ) (t : length p.threads ≡ threads) where
  pub graph_read : read_graph threads (graph_text (graph tso p s)) ≡ parsed (graph tso p s)
  graph_read = subst (λ (n : ℕ). read_graph n (graph_text (graph tso p s)) ≡ parsed (graph tso p s)) t (tso_text_read p a s f)

  module _ (text : List ℕ) (i : text ≡ graph_text (graph tso p s)) where
    -- it is not refused
    pub graph_passes : (r : Result Table Refusal) → ReadAs r (read_graph threads text) → IsOk r
    graph_passes (Ok t) k = refl
    graph_passes (Err r) k = let e : refused_at r.number r.place ≡ parsed (graph tso p s) = sym k ∙ ap (read_graph threads) i ∙ graph_read in cc

    pub graph_tabled : (r : Result Table Refusal) → ReadAs r (read_graph threads text) → (t : Table) → r ≡ Ok t → Tabled t.pairs t.counts (graph tso p s)
    graph_tabled r k t e =
        let h = subst (λ (x : Result Table Refusal). ReadAs x (parsed (graph tso p s))) e (subst (ReadAs r) (ap (read_graph threads) i ∙ graph_read) k) in
        let q : graph tso p s ≡ h.0 = let u = h.1 in cc in
        subst (Tabled t.pairs t.counts) (sym q) h.2

-- the judge's finding, and the test
pub judged_relaxed : (p : Program) (s : Schedule) (r : Option (Steps 24)) (b : Bool) → is_some r ≡ not b → JudgedAs r (judge p (graph tso p s)) → b ≡ is_relaxed p s
unfolding is_relaxed is_no
judged_relaxed p s (Some t) false q j = sym (ap is_no j.0)
judged_relaxed p s (Some t) true q j = cc
judged_relaxed p s None true q j = sym (ap is_no j)
judged_relaxed p s None false q j = cc

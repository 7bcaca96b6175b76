-- The whole text: written in front of a buffer of 512 bytes it is the text of the notes, so of the run's graph, and the rest of the buffer
-- keeps its value.
use Prim.Native.Nat.{ℕ, ◌+◌, ◌-◌, ◌≤◌}
use native.Mathlib.Omega.{arith}
use mathlib.Core.Path.{◌≡◌, sym, ap, ◌∙◌}
use mathlib.Core.List.{List, ◌++◌}
use lib.ListN.{length}
use borrow.Rule.Slice.PartMut.{mid_of, put_mid}
use Rattle.spec_file.specs.Over.{over}
use Rattle.spec_file.specs.Program.{Program}
use Rattle.spec_file.specs.WellFormed.{WellFormed}
use Rattle.spec_schedules.specs.Order.{Schedule}
use Rattle.spec_schedules.specs.System.{Allowed}
use Rattle.spec_sc.specs.State.{SC, start}
use Rattle.spec_sc.specs.Graph.{graph}
use Rattle.spec_sc.specs.Text.{text_of, graph_text}
use Rattle.graph_writer.specs.Notes.{Note, notes, Noted}
use Rattle.graph_writer.specs.NoteText.{read_frames_in, order_frames_in, note_frames, notes_at, Wrote}
use Rattle.graph_writer.proofs.NoteGraph.{notes_length, graph_text_notes}
use Rattle.graph_writer.proofs.NoteLength.{notes_400}
use Rattle.graph_writer.proofs.NotesHeld.{notes_held}
use Rattle.graph_writer.proofs.WrittenLines.{wrote_more, wrote_whole}

-- the reads' lines, then those of the locations
pub notes_written : (log out mid last : List ℕ) (steps a b : ℕ) → 512 ≤ length out → Wrote (read_frames_in 6 (notes_at log steps)) out mid a → Wrote (order_frames_in 8 (notes_at log steps)) (mid_of a (length mid - a) mid) last b →
    (ns : List Note) → Noted log ns → length ns ≡ steps → (a + b ≡ length (text_of (note_frames ns))) × (put_mid a (length mid - a) mid last ≡ over (text_of (note_frames ns)) out)
unfolding note_frames
notes_written log out mid last steps a b h v w ns held e =
    let q : notes_at log steps ≡ ns = ap (notes_at log) (sym e) ∙ notes_held log ns held in
    let f : note_frames ns ≡ read_frames_in 6 (notes_at log steps) ++ order_frames_in 8 (notes_at log steps) = ap note_frames (sym q) in
    wrote_whole (note_frames ns) out (put_mid a (length mid - a) mid last) (a + b) (omega (arith, notes_400 ns held.most)) (wrote_more _ _ (note_frames ns) out mid last a b f v w)

-- what the writer promises of the notes, said of the graph
pub graph_written : (p : Program) → WellFormed p → (s : Schedule) → Allowed SC (start p) s → (log out later : List ℕ) (steps n : ℕ) →
    ((ns : List Note) → Noted log ns → length ns ≡ steps → (n ≡ length (text_of (note_frames ns))) × (later ≡ over (text_of (note_frames ns)) out)) →
    Noted log (notes (start p) s) → length s ≡ steps → (n ≡ length (graph_text (graph p s))) × (later ≡ over (graph_text (graph p s)) out)
graph_written p w s a log out later steps n f held e =
    let r = f (notes (start p) s) held (notes_length s (start p) ∙ e) in
    let g = sym (graph_text_notes p w s a) in
    (r.0 ∙ ap length g, r.1 ∙ ap (λ (t : List ℕ). over t out) g)

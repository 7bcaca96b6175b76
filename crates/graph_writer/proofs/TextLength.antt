-- No text of a well-formed program's graph is longer than 400 bytes: it is the text of at most 24 notes.
use Prim.Native.Nat.{◌≤◌}
use mathlib.Core.Path.{ap}
use native.Mathlib.Omega.{arith}
use lib.ListN.{length}
use Rattle.spec_file.specs.Program.{Program}
use Rattle.spec_file.specs.WellFormed.{WellFormed}
use Rattle.spec_schedules.specs.Order.{Schedule}
use Rattle.spec_schedules.proofs.Runs.{full_allowed}
use Rattle.spec_sc.specs.State.{SC, start}
use Rattle.spec_sc.specs.Graph.{graph, Full}
use Rattle.spec_sc.specs.Text.{graph_text}
use Rattle.graph_writer.specs.Notes.{notes}
use Rattle.spec_sc.proofs.Lawful.{at_most_24}
use Rattle.graph_writer.proofs.NoteGraph.{notes_length, graph_text_notes}
use Rattle.graph_writer.proofs.NoteLength.{notes_400}

-- AT MOST 400 BYTES
pub text_400 : (p : Program) → WellFormed p → (s : Schedule) → Full p s → length (graph_text (graph p s)) ≤ 400
text_400 p w s f =
    let n = at_most_24 p w s f in
    let l = notes_length s (start p) in
    let a = (full_allowed SC (start p) s f).0 in
    omega (arith, ap length (graph_text_notes p w s a), notes_400 (notes (start p) s) (omega arith))

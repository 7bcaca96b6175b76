-- What carrying out a schedule leaves, in either memory model: what refuses it and, where nothing does, notes that state its graph.
use Rattle.std.specs.Prelude.{ℕ, ◌≤◌, ◌≡◌, List, [], reverse, get_or, Ok}
use Rattle.spec_file.specs.Program.{Program}
use Rattle.spec_schedules.specs.Order.{Schedule}
use Rattle.spec_model.specs.Answers.{refuses_from}
use Rattle.spec_sc.specs.Graph as Sequences
use Rattle.spec_sc.specs.Graph.{Graph}
use Rattle.spec_sc.specs.Text.{text_of, graph_text}
use Rattle.spec_tso.specs.Graph as Stores
use Rattle.graph_writer.specs.Notes.{Note, Noted}
use Rattle.graph_writer.specs.NoteText.{reads_in, writes_in, note_frames, notes_at}
use Rattle.machine_replay.specs.Carried.{refusal_of}
use Rattle.listing_model.specs.declared.memory.Model.{Model}
use Rattle.listing_model.specs.declared.memory.Model.TheVariants.{Sequential, TotalStoreOrder}
use Rattle.listing_model.specs.ModelOf.{model_of}
use Rattle.listing_replay.specs.declared.replaying.Replay.{Replay}

-- the graph of a schedule; graphs of the two models are of one kind
abbrev pub graph_in : Model → Program → Schedule → Graph
graph_in Sequential p s = Sequences.graph p s
graph_in TotalStoreOrder p s = Stores.graph p s

-- notes that state a graph
pub record NotesOf (g : Graph) (ns : List Note) : Type 0 where
  -- the writes of each location, in coherence order
  pub writes : (l : ℕ) → writes_in l ns ≡ reverse (get_or g.writes l [])
  -- the reads of each thread, in the order of its accesses
  pub reads : (t : ℕ) → reads_in t ns ≡ reverse (get_or g.reads t [])
  -- the lines of the notes are the graph's text
  pub text : text_of (note_frames ns) ≡ graph_text g

pub record Replays (m : Model) (p : Program) (s : Schedule) (r : Replay) : Type 0 where
  -- the end tells what refuses the schedule
  pub answer : refusal_of r.end ≡ refuses_from (model_of m).system 0 ((model_of m).start p) s
  -- the log has room for the notes
  pub few : r.notes ≤ 24
  -- the notes of a schedule that nothing refuses stand in the log, one behind the other
  pub noted : r.end ≡ Ok tt → Noted r.log (notes_at r.log r.notes)
  -- they state its graph
  pub graph : r.end ≡ Ok tt → NotesOf (graph_in m p s) (notes_at r.log r.notes)

-- The text of a graph, read off the notes of a run: the reads of each thread and the writes of each location, first to last. Then what the
-- functions that write it promise.
use Rattle.std.specs.Prelude.{ℕ, ◌+◌, ◌*◌, ◌-◌, ◌≡◌, cond, eqb, length, get_or}
use mathlib.Core.List.{List, [], ◌∷◌, ◌++◌, map, flat_map}
use Rattle.spec_file.specs.Text.{written}
use Rattle.spec_file.specs.Over.{over}
use Rattle.spec_schedules.specs.Lists.{range}
use Rattle.spec_sc.specs.State.{Event}
use Rattle.spec_sc.specs.Text.{read_frame, event_bytes}
use Rattle.graph_writer.specs.Notes.{Note}

-- the read of thread t that a note states, if it states one
unfoldable pub read_in : ℕ → Note → List (ℕ × Event)
read_in t n = cond (eqb n.thread t) (cond n.reads ((n.number, n.source) ∷ []) []) []

-- the write of location l that a note states, if it states one
unfoldable pub write_in : ℕ → Note → List Event
write_in l n = cond (eqb n.location l) (cond n.wrote ((n.thread, n.number) ∷ []) []) []

-- the reads of thread t, in the order of its accesses
unfoldable pub reads_in : ℕ → List Note → List (ℕ × Event)
reads_in t ns = flat_map (read_in t) ns

-- the writes of location l, in coherence order
unfoldable pub writes_in : ℕ → List Note → List Event
writes_in l ns = flat_map (write_in l) ns

-- a frame for each of thread t's reads
unfoldable pub thread_frames : ℕ → List (ℕ × Event) → List (List ℕ)
thread_frames t rs = map (read_frame t) rs

-- the frame of location l, unless it was not written; its writes in coherence order
unfoldable pub order_frame : ℕ → List Event → List (List ℕ)
order_frame l [] = []
order_frame l (e ∷ es) = (0x41 ∷ l ∷ event_bytes (e ∷ es)) ∷ []

-- the frames of the first so many threads, and of the first so many locations
unfoldable pub read_frames_in : ℕ → List Note → List (List ℕ)
read_frames_in t ns = flat_map (λ u. thread_frames u (reads_in u ns)) (range 0 t)

unfoldable pub order_frames_in : ℕ → List Note → List (List ℕ)
order_frames_in l ns = flat_map (λ k. order_frame k (writes_in k ns)) (range 0 l)

-- the frames of the graph: six threads, eight locations
unfoldable pub note_frames : List Note → List (List ℕ)
note_frames ns = read_frames_in 6 ns ++ order_frames_in 8 ns

-- ---- the writer's functions
-- the note that stands in place k of the array
unfoldable pub note_at : List ℕ → ℕ → Note
note_at log k = record {
  thread = get_or log (k * 8) 0;
  number = get_or log (k * 8 + 1) 0;
  location = get_or log (k * 8 + 2) 0;
  reads = eqb (get_or log (k * 8 + 3) 0) 1;
  source = (get_or log (k * 8 + 4) 0, get_or log (k * 8 + 5) 0);
  wrote = eqb (get_or log (k * 8 + 6) 0) 1;
}

-- the first n notes of the array
unfoldable pub notes_at : List ℕ → ℕ → List Note
notes_at log n = map (note_at log) (range 0 n)

-- what is written of these frames where there is room for so many bytes: line after line, each if it still fits
unfoldable pub written_lines : List (List ℕ) → ℕ → List ℕ
written_lines [] room = []
written_lines (f ∷ fs) room = written f room ++ written_lines fs (room - length (written f room))

-- of a buffer: the lines of these frames, n bytes, stand in front, and the rest keeps its value
pub record Wrote (fs : List (List ℕ)) (before after : List ℕ) (n : ℕ) : Type 0 where
  pub count : n ≡ length (written_lines fs (length before))
  pub content : after ≡ over (written_lines fs (length before)) before

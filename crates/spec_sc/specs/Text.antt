-- The text of a graph: a frame `40 t i u j` for each read, ascending by t then i, and a frame `41 l t i ..` for each location written,
-- ascending by l, its writes in coherence order. Each frame is one line.
use Rattle.std.specs.Prelude.{ℕ, suc, List, [], ◌∷◌, ◌++◌, map, reverse}
use Rattle.spec_file.specs.Text.{text}
use Rattle.spec_sc.specs.State.{Event}
use Rattle.spec_sc.specs.Graph.{Graph}

-- event (t, i) reads from (u, j)
unfoldable pub read_frame : ℕ → ℕ × Event → List ℕ
read_frame t r = 0x40 ∷ t ∷ r.0 ∷ r.1.0 ∷ r.1.1 ∷ []

-- the frames of threads t, t + 1, ..
unfoldable pub read_frames : ℕ → List (List (ℕ × Event)) → List (List ℕ)
read_frames t [] = []
read_frames t (rs ∷ rows) = map (read_frame t) (reverse rs) ++ read_frames (suc t) rows

-- the bytes of these events
unfoldable pub event_bytes : List Event → List ℕ
event_bytes [] = []
event_bytes (e ∷ es) = e.0 ∷ e.1 ∷ event_bytes es

-- the events that these bytes spell, two a piece
unfoldable pub events_in : List ℕ → List Event
events_in [] = []
events_in (t ∷ []) = []
events_in (t ∷ i ∷ l) = (t, i) ∷ events_in l

-- the frame of location l, unless it was not written; its writes latest first
unfoldable pub write_frame : ℕ → List Event → List (List ℕ)
write_frame l [] = []
write_frame l (e ∷ es) = (0x41 ∷ l ∷ event_bytes (reverse (e ∷ es))) ∷ []

-- the frames of locations l, l + 1, ..
unfoldable pub write_frames : ℕ → List (List Event) → List (List ℕ)
write_frames l [] = []
write_frames l (ws ∷ rows) = write_frame l ws ++ write_frames (suc l) rows

unfoldable pub frames : Graph → List (List ℕ)
frames g = read_frames 0 g.reads ++ write_frames 0 g.writes

-- the text of frames, a line each
unfoldable pub text_of : List (List ℕ) → List ℕ
text_of [] = []
text_of (f ∷ fs) = text f ++ text_of fs

unfoldable pub graph_text : Graph → List ℕ
graph_text g = text_of (frames g)

-- What the code keeps of a run: a note of eight bytes for each step. Everything that a graph says can be read off the notes.
use Rattle.std.specs.Prelude.{ℕ, ◌+◌, ◌*◌, ◌<◌, ◌≤◌, ◌≡◌, Bool, false, cond, List, [], ◌∷◌, ltb, length, get_or}
use Rattle.std.proofs.lemmas.List.Edits.{sets}
use Rattle.spec_schedules.specs.Order.{Schedule}
use Rattle.spec_sc.specs.Local.{takes}
use Rattle.spec_sc.specs.State.{Event, State, thread_of, cell_of, place, latest, step}
use Rattle.spec_sc.specs.Actions.{writes}

-- a step's thread and its access's number, its location, whether it reads and the last write of that location, and whether it writes
pub record Note : Type 0 where
  pub thread : ℕ
  pub number : ℕ
  pub location : ℕ
  pub reads : Bool
  pub source : Event
  pub wrote : Bool

-- the note of a step of thread t
unfoldable pub note : State → ℕ → Note
note σ t = record {
  thread = t;
  number = (thread_of σ t).history.done;
  location = place σ t;
  reads = takes (thread_of σ t).local;
  source = latest (cell_of σ (place σ t)).writes;
  wrote = writes σ t;
}

-- the notes of a schedule's steps, in order
unfoldable pub notes : State → Schedule → List Note
notes σ [] = []
notes σ (t ∷ s) = note σ t ∷ notes (step σ t) s

-- a note as eight bytes
unfoldable pub note_bytes : Note → List ℕ
note_bytes n =
    n.thread
    ∷ n.number
    ∷ n.location
    ∷ cond n.reads 1 0
    ∷ n.source.0
    ∷ n.source.1
    ∷ cond n.wrote 1 0
    ∷ 0
    ∷ []

unfoldable pub no_note : Note
no_note = record { thread = 0; number = 0; location = 0; reads = false; source = (0, 0); wrote = false }

-- the array holds these notes, at most 24, one after the other, eight bytes each
pub record Noted (log : List ℕ) (ns : List Note) : Type 0 where
  pub size : length log ≡ 192
  pub most : length ns ≤ 24
  pub bytes : (k j : ℕ) → k < length ns → j < 8 → get_or log (k * 8 + j) 0 ≡ get_or (note_bytes (get_or ns k no_note)) j 0

-- the array with these bytes, one after the other, from byte 8 k on: place k, if it is one of its 24
unfoldable pub put_note : List ℕ → ℕ → List ℕ → List ℕ
put_note log k bytes = cond (ltb k 24) (sets log (k * 8) bytes) log

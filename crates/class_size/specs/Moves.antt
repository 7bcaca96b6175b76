-- Where each thread may go, read off the `02` lines and the notes of a run. For this crate's own functions: nothing here is needed to read
-- `class_size_lem`.
use Rattle.std.specs.Prelude.{ℕ, ◌+◌, ◌*◌, ◌-◌, ◌/◌, Bool, false, not, ◌&&◌, ◌||◌, List, [], ◌∷◌, map, eqb, length, get_or, Option, Some, None}
use Rattle.spec_schedules.specs.Lists.{range, any, all, filter}
use Rattle.spec_schedules.specs.Permutations.{permutations, moved}
use Rattle.spec_model.specs.Exchange.{together}
use Rattle.spec_sc.specs.State.{Event}
use Rattle.spec_sc.specs.Same.{same_read}
use Rattle.spec_file.specs.Lists.{same_list}
use Rattle.graph_writer.specs.Notes.{Note}
use Rattle.graph_writer.specs.NoteText.{reads_in, note_at}

-- the read that note k states: its access's number and its source
abbrev pub read_at : List ℕ → ℕ → ℕ × Event
read_at log k = ((note_at log k).number, (note_at log k).source)

-- the notes from place k on, up to so many
unfoldable pub notes_from : List ℕ → ℕ → ℕ → List Note
notes_from log k steps = map (note_at log) (range k (steps - k))

-- a thread's reads, where its next one stands at this place or it has no more
abbrev pub reads_on : List ℕ → ℕ → ℕ → Option ℕ → List (ℕ × Event)
reads_on log steps t None = []
reads_on log steps t (Some k) = read_at log k ∷ reads_in t (notes_from log (k + 1) steps)

-- a note of a write by thread t
abbrev pub write_by : ℕ → Note → Bool
write_by t n = eqb n.thread t && n.wrote

-- whether thread t wrote
unfoldable pub wrote_in : List Note → ℕ → Bool
wrote_in ns t = any (write_by t) ns

-- whether the graph is the same with thread t moved to u, as far as t is concerned
unfoldable pub unmoved_in : List Note → ℕ → ℕ → Bool
unmoved_in ns t u = eqb t u || (not (wrote_in ns t) && (not (wrote_in ns u) && same_list same_read (reads_in t ns) (reads_in u ns)))

-- whether the `02` lines let thread t go to u
unfoldable pub may_go : List (List ℕ) → ℕ → ℕ → Bool
may_go groups t u = eqb u t || together groups t u

-- whether each of the six goes where the table of six times six lets it go
unfoldable pub goes_by : List Bool → List ℕ → Bool
goes_by may π = all (λ t. get_or may (t * 6 + moved π t) false) (range 0 6)

-- whether each goes where this test lets it go
unfoldable pub goes_where : (ℕ → ℕ → Bool) → List ℕ → Bool
goes_where may π = all (λ t. may t (moved π t)) (range 0 6)

-- how many permutations move threads within these `02` lines, divided by how many of them leave the graph of the notes the same
unfoldable pub quotient : List (List ℕ) → List Note → ℕ
quotient groups ns =
    length (filter (goes_where (may_go groups)) permutations)
    / length (filter (goes_where (λ t u. may_go groups t u && unmoved_in ns t u)) permutations)

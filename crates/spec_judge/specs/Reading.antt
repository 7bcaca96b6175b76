-- Graph texts: the lines `40 t i u j` and `41 l t i ..` of a graph, with the refusals 30 to 33. Lines are taken in order, each by number; a
-- refusal's place is its line, from 1. A text of no lines is the graph without events. All else that is wrong with a graph is the answer
-- no.
use Rattle.std.specs.Prelude.{ℕ, ◌+◌, ◌%◌, Bool, true, cond, not, ◌&&◌, ◌||◌, List, [], ◌∷◌, reverse, eqb, ltb, leb, length, get_or, set, drop, replicate}
use Rattle.spec_file.specs.TextLines.{TextLine, split}
use Rattle.spec_file.specs.Meaning.{remarked, framed, broken, meaning}
use Rattle.spec_schedules.specs.Lists.{any, all}
use Rattle.spec_schedules.specs.Order.{less}
use Rattle.spec_sc.specs.State.{Event, initial_write}
use Rattle.spec_sc.specs.Graph.{Graph}
use Rattle.spec_sc.specs.Text.{events_in}
use Rattle.spec_judge.specs.Consistent.{row_of}
use Rattle.spec_sc.specs.Same.{same_event}

abbrev pub Frame : Type 0
Frame = List ℕ

-- byte k of a frame
abbrev pub byte_at : Frame → ℕ → ℕ
byte_at f k = get_or f k 0

-- a `40` line
unfoldable pub is_read : Frame → Bool
is_read f = eqb (byte_at f 0) 0x40

-- the writes of a `41` line, in coherence order
unfoldable pub writes_in : Frame → List Event
writes_in f = events_in (drop 2 f)

-- refusal 31: `40` has five bytes; `41` names one event or more
unfoldable pub known : Frame → Bool
known f = cond (is_read f) (eqb (length f) 5) (eqb (byte_at f 0) 0x41 && (leb 4 (length f) && eqb (length f % 2) 0))

-- refusal 32, of n threads: t and u are threads, i and j at most 15, l at most 7; the initial write is allowed only as a source
unfoldable pub is_event : ℕ → Event → Bool
is_event n e = ltb e.0 n && leb e.1 15

unfoldable pub is_source : ℕ → Event → Bool
is_source n e = same_event e initial_write || is_event n e

unfoldable pub in_range : ℕ → Frame → Bool
in_range n f = cond (is_read f)
    (is_event n (byte_at f 1, byte_at f 2) && is_source n (byte_at f 3, byte_at f 4))
    (leb (byte_at f 1) 7 && all (is_event n) (writes_in f))

-- what orders the lines: kind, then t and i, or l
unfoldable pub key : Frame → List ℕ
key f = cond (is_read f) (byte_at f 0 ∷ byte_at f 1 ∷ byte_at f 2 ∷ []) (byte_at f 0 ∷ byte_at f 1 ∷ [])

-- the key of the last line, nothing before the first, and the graph so far
pub record Reading : Type 0 where
  pub last : List ℕ
  pub graph : Graph

-- whether an event stands among these writes
unfoldable pub written : Event → List (List Event) → Bool
written e rows = any (λ ws. any (same_event e) ws) rows

-- no event twice among these, nor among the writes so far
unfoldable pub all_new : List (List Event) → List Event → Bool
all_new rows [] = true
all_new rows (e ∷ es) = not (written e rows) && (not (any (same_event e) es) && all_new rows es)

-- refusal 33: the line comes after the one before it, and names no event that a `41` line has named
unfoldable pub in_order : Reading → Frame → Bool
in_order r f = less r.last (key f) && cond (is_read f) true (all_new r.graph.writes (writes_in f))

-- the number by which a line of a text of n threads is refused, or 0 where it passes
unfoldable pub refusal : ℕ → Reading → Frame → ℕ
refusal n r f =
    cond (not (known f)) 31
    (cond (not (in_range n f)) 32
    (cond (not (in_order r f)) 33
    0))

-- the graph with a line more
unfoldable pub with_line : Frame → Graph → Graph
with_line f g = cond (is_read f)
    (record { reads = set g.reads (byte_at f 1) ((byte_at f 2, (byte_at f 3, byte_at f 4)) ∷ row_of g (byte_at f 1)); writes = g.writes })
    (record { reads = g.reads; writes = set g.writes (byte_at f 1) (reverse (writes_in f)) })

unfoldable pub after : Frame → Reading → Reading
after f r = record { last = key f; graph = with_line f r.graph }

-- before the first line: a row for each thread and a list for each location, all empty
unfoldable pub fresh : ℕ → Reading
fresh n = record { last = []; graph = record { reads = replicate n []; writes = replicate 8 [] } }

-- a graph, or a refusal's number and place
pub data Parsed : Type 0 where
  parsed : Graph → Parsed
  refused_at : ℕ → ℕ → Parsed

-- the lines from number k on, of a text of n threads. Refusal 30: a line that is empty, odd, without its 0a, or has another character; a
-- remark is passed over, and counts as a line
unfoldable pub read_lines : ℕ → ℕ → List TextLine → Reading → Parsed
read_lines n k [] r = parsed r.graph
read_lines n k (l ∷ ls) r =
    elim (meaning l) [
      | broken ↦ refused_at 30 k
      | remarked ↦ read_lines n (k + 1) ls r
      | framed f ↦ cond (eqb (refusal n r f) 0) (read_lines n (k + 1) ls (after f r)) (refused_at (refusal n r f) k)
    ]

unfoldable pub read_graph : ℕ → List ℕ → Parsed
read_graph n text = read_lines n 1 (split text) (fresh n)

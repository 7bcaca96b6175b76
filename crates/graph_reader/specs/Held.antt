-- How the arrays of the judge hold a graph and what has been read of its text. For the judge's own functions: nothing here is needed to
-- read `read_graph`.
use Rattle.std.specs.Prelude.{ℕ, ◌+◌, ◌*◌, ◌≤◌, ◌<◌, ◌≡◌, ◌⊎◌, Bool, true, false, cond, List, [], ◌∷◌, reverse, eqb, ltb, length, get_or, set, replicate, Result, Ok, Err}
use Rattle.spec_sc.specs.State.{Event}
use Rattle.spec_sc.specs.Graph.{Graph}
use Rattle.spec_file.specs.Frame.{pairs}
use Rattle.spec_schedules.specs.Order.{less}
use Rattle.graph_reader.specs.declared.table.Table.{Table}
use Rattle.spec_file.specs.declared.refusal.Refusal.{Refusal}
use Rattle.spec_judge.specs.Consistent.{row_of, order_of}
use Rattle.spec_judge.specs.Reading.{Frame, byte_at, is_read, known, in_range, key, Reading, written, refusal, after, Parsed, parsed}
use Rattle.spec_judge.specs.Reading.{refused_at}

-- what stands where a graph has no line: no event and no source
unfoldable pub no_line : Event
no_line = (254, 254)

-- the source that a row gives to access i, and no_line where it has none
unfoldable pub line_in : List (ℕ × Event) → ℕ → Event
line_in [] i = no_line
line_in (r ∷ rs) i = cond (eqb r.0 i) r.1 (line_in rs i)

-- entry k of a table of pairs
abbrev pub Entry : List ℕ → ℕ → Event → Type 0
Entry table k e = (get_or table (k * 2) 0 ≡ e.0) × (get_or table (k * 2 + 1) 0 ≡ e.1)

-- the table with another entry k
abbrev pub put : List ℕ → ℕ → ℕ → ℕ → List ℕ
put table k a b = set (set table (k * 2) a) (k * 2 + 1) b

-- a table of 288 pairs and eight counts hold a graph: the source of each access, and of each location its first 24 writes and how many it
-- has
pub record Tabled (table sizes : List ℕ) (g : Graph) : Type 0 where
  pub sources : (t i : ℕ) → t < 6 → i < 16 → Entry table (t * 16 + i) (line_in (row_of g t) i)
  pub orders : (l k : ℕ) → l < 8 → k < 24 → Entry table (96 + (l * 24 + k)) (get_or (reverse (order_of g l)) k no_line)
  pub counts : (l : ℕ) → l < 8 → get_or sizes l 0 ≡ length (order_of g l)

-- the events that stand among these writes are marked
abbrev pub Seen : List Bool → List (List Event) → Type 0
Seen seen rows = (t i : ℕ) → t < 6 → i < 16 → get_or seen (t * 16 + i) false ≡ written (t, i) rows

-- the place of a line in the order of all lines, from 1
unfoldable pub rank_of : Frame → ℕ
rank_of f = cond (is_read f) (byte_at f 1 * 16 + byte_at f 2 + 1) (byte_at f 1 + 97)

-- the table holds what has been read of a text of n threads
pub record Holds (n : ℕ) (s : Table) (r : Reading) : Type 0 where
  pub rows : length r.graph.reads ≡ n
  pub lists : length r.graph.writes ≡ 8
  pub graph : Tabled s.pairs s.counts r.graph
  pub seen : Seen s.seen r.graph.writes
  -- a line comes after the last one exactly if its place does
  pub last : (f : Frame) → known f ≡ true → in_range n f ≡ true → less r.last (key f) ≡ ltb s.last (rank_of f)
  -- locations whose line would come later have none yet
  pub later : (l : ℕ) → s.last < l + 97 → order_of r.graph l ≡ []

-- the table before the first line
abbrev pub empty_table : Table
empty_table = record { pairs = replicate 576 254; counts = replicate 8 0; seen = replicate 96 false; last = 0 }

-- the events are marked, one after the other
unfoldable pub marked_by : List Bool → List Event → List Bool
marked_by seen [] = seen
marked_by seen (e ∷ es) = marked_by (set seen (e.0 * 16 + e.1) true) es

-- byte k of a frame, and 254 behind its end
unfoldable pub byte_or : Frame → ℕ → ℕ
byte_or f k = cond (ltb k (length f)) (byte_at f k) 254

-- the first k of the 24 entries of location l are its writes; all others are as they were
pub record Ordered (old : List ℕ) (l : ℕ) (ws : List Event) (k : ℕ) (new : List ℕ) : Type 0 where
  pub size : length new ≡ 576
  pub inside : (q : ℕ) → q < k → Entry new (96 + (l * 24 + q)) (get_or ws q no_line)
  pub outside : (j : ℕ) → (j < 96 + l * 24) ⊎ (96 + (l * 24 + 24) ≤ j) → Entry new j (get_or old (j * 2) 0, get_or old (j * 2 + 1) 0)

-- the table with a `40` line more
abbrev pub read_table : Frame → Table → Table
read_table f s = record {
  pairs = put s.pairs (byte_at f 1 * 16 + byte_at f 2) (byte_at f 3) (byte_at f 4);
  counts = s.counts;
  seen = s.seen;
  last = rank_of f;
}

-- a line that is not refused, for the table's own needs
pub record Passes (n : ℕ) (line : List ℕ) (m : ℕ) : Type 0 where
  pub few : n ≤ 6
  pub size : m ≡ length (pairs line)
  pub known : known (pairs line) ≡ true
  pub in_range : in_range n (pairs line) ≡ true

-- what a line that is not refused leaves
abbrev pub Taken : ℕ → List ℕ → Table → Table → Type 0
Taken n line s s' = (r : Reading) → Holds n s r → refusal n r (pairs line) ≡ 0 → Holds n s' (after (pairs line) r)

-- the answer's table holds the graph that was read, or the answer is the refusal
abbrev pub ReadAs : Result Table Refusal → Parsed → Type 0
ReadAs (Ok s) p = (g : Graph) × (p ≡ parsed g) × Tabled s.pairs s.counts g
ReadAs (Err r) p = p ≡ refused_at r.number r.place

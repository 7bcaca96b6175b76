-- Which graphs are consistent, in document 01's words: made by the program, and no cycle in program order, reads-from, coherence and
-- from-reads together. No schedule is mentioned: that some full schedule has the graph is a theorem.
-- A graph may name events that no thread makes. Row t of `reads` has the `40` lines of thread t, list l of `writes` the `41` line of
-- location l, each with its last entry first, as the machine notes them.
use Rattle.std.specs.Prelude.{ℕ, zero, suc, ◌<◌, ◌^◌, ◌≡◌, ◌≢◌, ◌↔◌, ◌⊎◌, true, length, get_or}
use Rattle.std.proofs.Math.Option.{Option, none, some}
use mathlib.Core.List.{List, [], ◌∷◌, ◌++◌, Memᴰ}
use Rattle.spec_file.specs.Program.{Program, initial}
use Rattle.spec_sc.specs.Local.{Local, place_of, takes, puts, next}
use Rattle.spec_sc.specs.State.{Event, initial_write, thread_of, start}
use Rattle.spec_sc.specs.Graph.{Graph}
use Rattle.spec_schedules.specs.Lists.{Distinct}

-- the `40` lines of thread t: access number and source, the last first
abbrev pub row_of : Graph → ℕ → List (ℕ × Event)
row_of g t = get_or g.reads t []

-- the `41` line of location l, the last write first
abbrev pub order_of : Graph → ℕ → List Event
order_of g l = get_or g.writes l []

-- the graph says that e reads from s
abbrev pub ReadsFrom : Graph → Event → Event → Type 0
ReadsFrom g e s = Memᴰ (e.1, s) (row_of g e.0)

-- y comes after x in this list, whose last member stands first
abbrev pub Later : {A : Type 0} → List A → A → A → Type 0
Later [] y x = ⊥
Later (w ∷ ws) y x = ((y ≡ w) × Memᴰ x ws) ⊎ Later ws y x

-- coherence at l with the initial write, which precedes all
abbrev pub coherence_of : Graph → ℕ → List Event
coherence_of g l = order_of g l ++ (initial_write ∷ [])

-- a value for each read, 32-bit where the program makes a graph on them
abbrev pub Values : Type 0
Values = Event → ℕ

-- thread t run by itself, before its access i, when each access k finds the value v (t, k)
unfoldable pub alone : Program → Values → ℕ → ℕ → Local
alone p v t zero = (thread_of (start p) t).local
alone p v t (suc i) = next (alone p v t i) (v (t, i))

-- what the thread of an event is about to do on these values: behind its end a thread neither reads nor writes, so that all pairs may be
-- asked
abbrev pub local_at : Program → Values → Event → Local
local_at p v e = alone p v e.0 e.1

-- the event reads
abbrev pub Reads : Program → Values → Event → Type 0
Reads p v e = takes (local_at p v e) ≡ true

-- the location of the event
abbrev pub location_of : Program → Values → Event → ℕ
location_of p v e = place_of (local_at p v e)

-- what the event writes, if it writes
abbrev pub out_of : Program → Values → Event → Option ℕ
out_of p v e = puts (local_at p v e) (v e)

-- the event writes at l
abbrev pub WritesAt : Program → Values → Event → ℕ → Type 0
WritesAt p v e l = (location_of p v e ≡ l) × (out_of p v e ≢ none)

-- s leaves the value x at location l: it writes x there, or it is the initial write and memory starts with x
abbrev pub Leaves : Program → Values → Event → ℕ → ℕ → Type 0
Leaves p v s l x = ((s ≡ initial_write) × (x ≡ get_or (initial p) l 0)) ⊎ ((location_of p v s ≡ l) × (out_of p v s ≡ some x))

-- on these values the threads, run to their ends, make exactly the graph's events
pub record Makes (p : Program) (g : Graph) (v : Values) : Type 0 where
  -- the value given to each read is 32-bit unsigned
  pub words : (e : Event) → Reads p v e → v e < 2 ^ 32
  -- just the reads stand in `40` lines
  pub noted : (e s : Event) → ReadsFrom g e s → Reads p v e
  pub sourced : (e : Event) → Reads p v e → (s : Event) × ReadsFrom g e s
  -- just the writes of l stand in the `41` line of l
  pub writes : (l : ℕ) (e : Event) → Memᴰ e (order_of g l) ↔ WritesAt p v e l
  -- each source writes the value that is read, at the location that is read
  pub found : (e s : Event) → ReadsFrom g e s → Leaves p v s (location_of p v e) (v e)

-- the four orders: x stands before y
pub data Before (p : Program) (g : Graph) (v : Values) (x y : Event) : Type 0 where
  program_order : x.0 ≡ y.0 → x.1 < y.1 → Before p g v x y
  -- the initial write is no event
  reads_from : ReadsFrom g y x → x ≢ initial_write → Before p g v x y
  coherence : (l : ℕ) → Later (order_of g l) y x → Before p g v x y
  -- a read before each write that comes after its source; only the edge from an event to itself is left out
  from_reads : (s : Event) → ReadsFrom g x s → Later (coherence_of g (location_of p v x)) y s → x ≢ y → Before p g v x y

-- y can be reached from x by one step of the relation or more
pub data Way {A : Type 0} (R : A → A → Type 0) (x : A) : A → Type 0 where
  one : {y : A} → R x y → Way R x y
  more : {y z : A} → Way R x y → R y z → Way R x z

abbrev pub Acyclic : {A : Type 0} → (A → A → Type 0) → Type 0
Acyclic {A} R = (x : A) → Way R x x → ⊥

-- access numbers descend
abbrev pub Descends : List (ℕ × Event) → Type 0
Descends [] = Unit {0}
Descends (r ∷ rs) = ((x : ℕ × Event) → Memᴰ x rs → x.0 < r.0) × Descends rs

-- what every graph text that is not refused gives: a row for each thread and a list for each of the eight locations, in order, nothing
-- twice
pub record Canonical (p : Program) (g : Graph) : Type 0 where
  pub rows : length g.reads ≡ length p.threads
  pub lists : length g.writes ≡ 8
  pub ordered : (t : ℕ) → Descends (row_of g t)
  pub once : (l : ℕ) → Distinct (order_of g l)

-- some values make the graph, and the four orders together have no cycle
pub record Consistent (p : Program) (g : Graph) : Type 0 where
  pub canonical : Canonical p g
  pub value : Values
  pub makes : Makes p g value
  pub acyclic : Acyclic (Before p g value)

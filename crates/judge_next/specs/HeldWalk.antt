-- What the walk goes by: the graph's table, the places of the accesses, and the machine. For the functions of the judge's walk.
use Rattle.std.specs.Prelude.{ℕ, ◌+◌, ◌*◌, ◌/◌, ◌%◌, ◌<◌, ◌≡◌, Bool, true, cond, not, ◌&&◌, eqb, ltb, length, get_or}
use Rattle.std.specs.Prelude as std
use Rattle.std.proofs.Math.Option.{Option, none, some}
use mathlib.Core.List.{List, reverse, Memᴰ}
use Rattle.spec_file.specs.Program.{Program}
use Rattle.spec_schedules.specs.Lists.{find, range}
use Rattle.spec_schedules.specs.Order.{Schedule}
use Rattle.spec_schedules.specs.System.{run, Allowed}
use Rattle.machine.specs.declared.state.Machine.{Machine}
use Rattle.spec_sc.specs.State.{Event, State, thread_of, cell_of, SC, start}
use Rattle.spec_sc.specs.Graph.{Graph}
use Rattle.graph_writer.specs.Notes.{note, note_bytes}
use Rattle.machine.specs.Held.{thread_at, Holds, Loaded}
use Rattle.spec_judge.specs.Consistent.{row_of, order_of, Values, Descends, location_of}
use Rattle.spec_judge.proofs.RoundValues.{final_values}
use Rattle.spec_judge.proofs.Walk.{fits}
use Rattle.spec_judge.specs.Reading.{parsed, read_graph}
use Rattle.graph_reader.specs.Held.{no_line, line_in, Entry, Tabled}

-- the read in entry k, other than (t, d), takes from (u, j) at location l and is not yet done
abbrev pub waits_at : List ℕ → List ℕ → Machine → ℕ → ℕ → ℕ → ℕ → ℕ → ℕ → Bool
waits_at pairs places m k l u j t d =
    eqb (get_or pairs (k * 2) 0) u && (eqb (get_or pairs (k * 2 + 1) 0) j && (eqb (get_or places k 0) l
    && (not (ltb (k % 16) (thread_at m (k / 16)).done) && not (eqb (k / 16) t && eqb (k % 16) d))))

-- the rows of the graph stand in the table, the places of their reads in the other, and the machine knows how far each thread is
pub record Drawn (pairs table : List ℕ) (n : ℕ) (m : Machine) (g : Graph) (place : Values) (σ : State) : Type 0 where
  pub rows : length g.reads ≡ n
  pub ordered : (t : ℕ) → Descends (row_of g t)
  pub small : (t : ℕ) (r : ℕ × Event) → Memᴰ r (row_of g t) → r.0 < 16
  pub sources : (t i : ℕ) → t < n → i < 16 → Entry pairs (t * 16 + i) (line_in (row_of g t) i)
  pub places : (t i : ℕ) → t < n → i < 16 → get_or table (t * 16 + i) 0 ≡ place (t, i)
  pub done : (t : ℕ) → t < n → (thread_of σ t).history.done ≡ (thread_at m t).done

-- a note's thread, number and location are such
pub record Ranged (note : List ℕ) : Type 0 where
  pub thread : get_or note 0 0 < 6
  pub number : get_or note 1 0 < 16
  pub location : get_or note 2 0 < 8

-- the bytes are the note of a step of thread t
abbrev pub NoteOf : List ℕ → State → ℕ → Type 0
NoteOf bytes σ t = bytes ≡ note_bytes (note σ t)

-- the read of a step, by its note and the tables: its entry is the last write of its location, and it goes where the table says
abbrev pub read_allowed : List ℕ → List ℕ → List ℕ → Bool
read_allowed pairs places b =
    cond (eqb (get_or b 3 0) 0) true
    (eqb (get_or pairs ((get_or b 0 0 * 16 + get_or b 1 0) * 2) 0) (get_or b 4 0)
    && (eqb (get_or pairs ((get_or b 0 0 * 16 + get_or b 1 0) * 2 + 1) 0) (get_or b 5 0)
    && eqb (get_or places (get_or b 0 0 * 16 + get_or b 1 0) 0) (get_or b 2 0)))

-- the turn of a write, when so many have been made at each location
abbrev pub write_allowed : List ℕ → List ℕ → List ℕ → Bool
write_allowed pairs made b =
    eqb (get_or pairs ((96 + (get_or b 2 0 * 24 + get_or made (get_or b 2 0) 0)) * 2) 0) (get_or b 0 0)
    && eqb (get_or pairs ((96 + (get_or b 2 0 * 24 + get_or made (get_or b 2 0) 0)) * 2 + 1) 0) (get_or b 1 0)

-- the orders of the graph stand in the table, and the counts say how many writes each location has seen
pub record Ordering (pairs counts : List ℕ) (g : Graph) (σ : State) : Type 0 where
  pub orders : (l k : ℕ) → l < 8 → k < 24 → Entry pairs (96 + (l * 24 + k)) (get_or (reverse (order_of g l)) k no_line)
  pub made : (l : ℕ) → l < 8 → get_or counts l 0 ≡ length (cell_of σ l).writes

-- the program, and the graph that was read, stand in their tables
pub record Given (code lengths : List ℕ) (n : ℕ) (pairs table : List ℕ) (p : Program) (g : Graph) : Type 0 where
  pub loaded : Loaded code lengths n p
  pub text : List ℕ
  pub read : read_graph n text ≡ parsed g
  pub sizes : List ℕ
  pub tabled : Tabled pairs sizes g
  pub places : (t i : ℕ) → t < n → i < 16 → get_or table (t * 16 + i) 0 ≡ location_of p (final_values p g) (t, i)

-- the walk so far: the machine stands behind the schedule s
pub record Walking (code lengths : List ℕ) (n : ℕ) (pairs table : List ℕ) (p : Program) (g : Graph) (m : Machine) (counts : List ℕ) (s : Schedule) : Type 0 where
  pub given : Given code lengths n pairs table p g
  pub allowed : Allowed SC (start p) s
  pub holds : Holds code lengths m (run SC (start p) s)
  pub made : (l : ℕ) → l < 8 → get_or counts l 0 ≡ length (cell_of (run SC (start p) s) l).writes

-- the thread that was chosen, if one was
abbrev pub chosen_of : std.Option ℕ → Option ℕ
chosen_of (std.Some t) = some t
chosen_of std.None = none

-- the least thread whose next access the graph allows
abbrev pub next_of : Program → Graph → Schedule → Option ℕ
next_of p g s = find (fits g (location_of p (final_values p g)) (run SC (start p) s)) (range 0 6)

-- How the machine's arrays hold a state of the specification. What each thread read is not in them: it stands in the notes.
use Rattle.std.specs.Prelude.{ℕ, ◌<◌, ◌≤◌, ◌≡◌, true, false, cond, List, [], ◌∷◌, length, get_or, set, drop}
use Rattle.spec_file.specs.declared.instruction.Instruction.{Instruction}
use Rattle.spec_file.specs.Program.{Program}
use Rattle.spec_file.specs.WellFormed.{WellFormed}
use Rattle.spec_file.specs.Tabulate.{tabulate}
use Rattle.file_rows.specs.Rows.{thread_code}
use Rattle.machine_access.specs.declared.thread.ThreadState.{ThreadState}
use Rattle.machine.specs.declared.state.LastWrite.{LastWrite}
use Rattle.machine.specs.declared.state.Machine.{Machine}
use Rattle.machine.specs.declared.stepping.After.{After}
use Rattle.machine.specs.declared.stepping.Moved.{Moved}
use Rattle.machine.specs.declared.stepping.Stepped.{Stepped}
use Rattle.spec_sc.specs.Local.{pending}
use Rattle.spec_sc.specs.State.{Event, Thread, State, thread_of, cell_of, latest, place, step}
use Rattle.spec_sc.specs.Actions.{writes}
use Rattle.graph_writer.specs.Notes.{note, note_bytes}

-- what an array of threads, and one of last writes, reads as behind its end
abbrev pub idle : ThreadState
idle = record { registers = []; at = 0; done = 0; failed = false }

abbrev pub unwritten : LastWrite
unwritten = record { thread = 0; number = 0 }

-- thread t of the machine, of its six
abbrev pub thread_at : Machine → ℕ → ThreadState
thread_at m t = get_or m.threads t idle

-- the last write of location l, of its eight
abbrev pub last_at : Machine → ℕ → LastWrite
last_at m l = get_or m.last l unwritten

abbrev pub event_of : LastWrite → Event
event_of e = (e.thread, e.number)

-- a thread whose code this is: what is left of it, whether it failed and how many accesses it did; it stands before an access or at the end
pub record HoldsThread (c : List Instruction) (k : ThreadState) (h : Thread) : Type 0 where
  pub rest : h.local.rest ≡ drop k.at c
  pub failed : h.local.failed ≡ k.failed
  pub done : h.history.done ≡ k.done
  pub settled : k.at < length c → pending h.local ≡ true
  pub bounded : k.done ≤ k.at

-- the machine holds this state, of a program whose code stands in these rows, in threads of these lengths
pub record Holds (code lengths : List ℕ) (m : Machine) (σ : State) : Type 0 where
  pub sizes : (length m.threads ≡ 6) × (length m.memory ≡ 8) × (length m.last ≡ 8)
  pub six : length σ.threads ≤ 6
  pub eight : length σ.cells ≡ 8
  pub threads : (t : ℕ) → t < 6 → HoldsThread (thread_code code t (get_or lengths t 0)) (thread_at m t) (thread_of σ t)
  pub registers : (t : ℕ) → t < length σ.threads → (thread_of σ t).local.registers ≡ (thread_at m t).registers
  pub values : (l : ℕ) → l < 8 → (cell_of σ l).value ≡ get_or m.memory l 0
  pub sources : (l : ℕ) → l < 8 → latest (cell_of σ l).writes ≡ event_of (last_at m l)

-- a thread's own part of that
abbrev pub HoldsAt : List ℕ → List ℕ → ThreadState → State → ℕ → Type 0
HoldsAt code lengths k σ t =
    HoldsThread (thread_code code t (get_or lengths t 0)) k (thread_of σ t)
    × (t < length σ.threads → (thread_of σ t).local.registers ≡ k.registers)

-- the threads of this well-formed program stand in these rows
pub record Loaded (code lengths : List ℕ) (threads : ℕ) (p : Program) : Type 0 where
  pub well_formed : WellFormed p
  pub codes : p.threads ≡ tabulate (λ t. thread_code code t (get_or lengths t 0)) threads

-- thread t, which stands so, has an instruction left, among at most sixteen
pub record ReadyThread (lengths : List ℕ) (k : ThreadState) (t : ℕ) : Type 0 where
  pub six : t < 6
  pub sixteen : get_or lengths t 0 ≤ 16
  pub left : k.at < get_or lengths t 0
  pub bounded : k.done ≤ k.at

-- thread t of the machine
abbrev pub Ready : List ℕ → Machine → ℕ → Type 0
Ready lengths m t = ReadyThread lengths (thread_at m t) t

-- what a step of thread t leaves: the next state, and the step's note
pub record HoldsStep (code lengths : List ℕ) (σ : State) (t : ℕ) (r : Stepped) : Type 0 where
  pub holds : Holds code lengths r.machine (step σ t)
  pub noted : r.note ≡ note_bytes (note σ t)

-- what a step of thread t leaves to a caller that keeps no last writes of the machine m: the next state with some last writes, the step's
-- location, and whether it wrote
pub record HoldsMoved (code lengths : List ℕ) (m : Machine) (σ : State) (t : ℕ) (a : Moved) : Type 0 where
  pub last : List LastWrite
  pub holds : Holds code lengths (record { threads = set m.threads t a.thread; memory = a.memory; last = last }) (step σ t)
  pub location : a.location ≡ place σ t
  pub wrote : a.wrote ≡ writes σ t

-- the last write of a step's place, where e was, and the step's note
abbrev pub last_after : ℕ → ℕ → LastWrite → After → LastWrite
last_after t number e a = cond a.writes (record { thread = t; number = number }) e

abbrev pub note_after : ℕ → ℕ → LastWrite → After → List ℕ
note_after t number e a = t ∷ number ∷ a.location ∷ cond a.reads 1 0 ∷ e.thread ∷ e.number ∷ cond a.writes 1 0 ∷ 0 ∷ []

-- the machine with these behind a step of thread t, which is the u-th of the array
abbrev pub whole : Machine → ℕ → ℕ → After → Stepped
whole m u t a = record {
  machine = record {
    threads = set m.threads u a.thread;
    memory = a.memory;
    last = set m.last a.place (last_after t (thread_at m u).done (last_at m a.place) a);
  };
  note = note_after t (thread_at m u).done (last_at m a.place) a;
}

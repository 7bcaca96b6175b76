-- Queues of pending stores. A thread's queue holds, oldest first, the stores that it did and that have not reached memory yet.
use Rattle.std.specs.Prelude.{ℕ, Bool, true, false, List, [], ◌∷◌, eqb, ltb}
use Rattle.std.proofs.Math.Option.{Option, none, some}
use Rattle.spec_sc.specs.State.{Event, Cell, latest}

-- a pending store: the number of the access that made it, its location and its value. In the queue of thread t it is the event (t, number).
pub record Entry : Type 0 where
  pub number : ℕ
  pub location : ℕ
  pub value : ℕ

-- the newest pending store to l
unfoldable pub newest : List Entry → ℕ → Option Entry
newest [] l = none
newest (e ∷ q) l = elim (newest q l) [ some f ↦ some f | none ↦ elim (eqb e.location l) [ true ↦ some e | false ↦ none ] ]

-- what an access finds: a value, and the write that it comes from
pub record Found : Type 0 where
  pub value : ℕ
  pub source : Event

-- thread t finds its own pending store if there is one, else what memory holds
unfoldable pub found_in : ℕ → Option Entry → Cell → Found
found_in t (some e) c = record { value = e.value; source = (t, e.number) }
found_in t none c = record { value = c.value; source = latest c.writes }

-- what access number i, to l, leaves in the queue, by whether it is locked and what it writes: a store waits there, a locked access does
-- not
unfoldable pub queued : Bool → ℕ → ℕ → Option ℕ → List Entry
queued locks i l none = []
queued true i l (some v) = []
queued false i l (some v) = record { number = i; location = l; value = v } ∷ []

-- what an access writes to memory at once: a locked one all that it writes, a store nothing
unfoldable pub at_once : Bool → Option ℕ → Option ℕ
at_once true o = o
at_once false o = none

unfoldable pub is_empty : List Entry → Bool
is_empty [] = true
is_empty (e ∷ q) = false

-- a locked access needs an empty queue, any other access none
unfoldable pub free : Bool → List Entry → Bool
free true q = is_empty q
free false q = true

-- the oldest pending store: its number, its location, its value; and what is left without it
unfoldable pub oldest_number : List Entry → ℕ
oldest_number [] = 0
oldest_number (e ∷ q) = e.number

unfoldable pub oldest_place : List Entry → ℕ
oldest_place [] = 0
oldest_place (e ∷ q) = e.location

unfoldable pub oldest_value : List Entry → Option ℕ
oldest_value [] = none
oldest_value (e ∷ q) = some e.value

unfoldable pub newer : List Entry → List Entry
newer [] = []
newer (e ∷ q) = q

-- a queue has an oldest entry, and its location is one of the first n. In a program's run the second always holds.
unfoldable pub movable : List Entry → ℕ → Bool
movable [] n = false
movable (e ∷ q) n = ltb e.location n

-- What a step does, as far as it makes the step right behind it wait or waits for the one before it: an action without the list of earlier
-- writes and without sources. Right behind a read, its source is in memory exactly when the read looked at memory; and what a read finds
-- there right behind a put to its location is that put.
use Rattle.std.specs.Prelude.{ℕ, Bool, true, false, not, ◌&&◌, ◌||◌, eqb}
use Rattle.std.proofs.Math.Option.{Option, none, some}
use Rattle.spec_sc.specs.Local.{place_of}
use Rattle.spec_sc.specs.State.{Cell}
use Rattle.spec_sc.specs.Actions.{given}
use Rattle.spec_tso.specs.Queue.{Entry, newest}
use Rattle.spec_tso.specs.State.{Thread, State, Kind, thread_of, cell_of, target, number_of, reaches, place, kind_of, owner}
use Rattle.spec_tso.specs.Actions.{moving, reading, locking}
use Rattle.theory_tso.specs.declared.deed.Deed.{Deed}

unfoldable pub is_none : Option Entry → Bool
is_none none = true
is_none (some e) = false

-- whether such a step looks at memory: it reads, and no own store to the location is pending
unfoldable pub looking : Kind → Thread → Bool
looking k h = reading k h && is_none (newest h.queue (place_of h.local))

-- what a step of kind k of thread t does, at a location whose cell is c
unfoldable pub deed_of : Kind → ℕ → Thread → Cell → Deed
deed_of k t h c = record {
  thread = t;
  number = number_of k h;
  location = target k h;
  moves = moving k;
  locks = locking k h;
  looks = looking k h;
  puts = given (reaches k t h c);
}

-- what the step b does
unfoldable pub deed : State → ℕ → Deed
deed σ b = deed_of (kind_of b) (owner b) (thread_of σ (owner b)) (cell_of σ (place σ (kind_of b) (owner b)))

-- (a) e made the store that d moves
unfoldable pub makes : Deed → Deed → Bool
makes e d = not e.moves && (d.moves && (eqb e.thread d.thread && eqb e.number d.number))

-- (b) e moved a store of the thread whose locked access d is
unfoldable pub empties : Deed → Deed → Bool
empties e d = e.moves && (d.locks && eqb e.thread d.thread)

-- (c) at one location, e put, and d puts, or is of another thread and looks at memory
unfoldable pub puts_first : Deed → Deed → Bool
puts_first e d = e.puts && (d.puts || (d.looks && not (eqb e.thread d.thread)))

-- (d) at one location, e looked at memory, and d puts
unfoldable pub looks_first : Deed → Deed → Bool
looks_first e d = e.looks && d.puts

-- d, right behind e and of another byte, must stay there
unfoldable pub waits : Deed → Deed → Bool
waits e d = (makes e d || empties e d) || (eqb e.location d.location && (puts_first e d || looks_first e d))

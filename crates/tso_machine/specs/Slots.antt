-- A queue as it stands in an array of slots: oldest first, from one slot on.
use Rattle.std.specs.Prelude.{ℕ, List, map, get_or, Option, Some, None}
use Rattle.std.proofs.Math.Option as Math
use Rattle.spec_schedules.specs.Lists.{range}
use Rattle.spec_tso.specs.Queue.{Entry}
use Rattle.tso_machine.specs.declared.state.Pending.{Pending}

-- what an array of slots reads as behind its end
abbrev pub no_store : Pending
no_store = record { value = 0; number = 0; location = 0 }

-- the store in a slot
abbrev pub entry_of : Pending → Entry
entry_of e = record { number = e.number; location = e.location; value = e.value }

unfoldable pub entry_at : List Pending → ℕ → Entry
entry_at slots k = entry_of (get_or slots k no_store)

-- n stores from slot `from` on
unfoldable pub queue_at : List Pending → ℕ → ℕ → List Entry
queue_at slots from n = map (entry_at slots) (range from n)

-- the store that the code finds, if any
unfoldable pub store_of : Option Pending → Math.Option Entry
store_of (Some e) = Math.some (entry_of e)
store_of None = Math.none

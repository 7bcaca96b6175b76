-- NEARNESS FROM ARRAYS: by the last writes of memory, words and ways as the search holds them.
use Rattle.std.specs.Prelude.{ℕ, ◌-◌, ◌≡◌, Bool, not, ◌&&◌, List, map, eqb, get_or}
use Rattle.spec_file.specs.Program.{Program}
use Rattle.spec_model.specs.Exchange.{together}
use Rattle.search_place.specs.ClassGroups.{Lined}
use Rattle.machine.specs.declared.state.LastWrite.{LastWrite}
use Rattle.machine.specs.Held.{unwritten, event_of}
use Rattle.spec_schedules.specs.Lists.{range}
use Rattle.spec_tso.specs.Queue.{Entry}
use Rattle.tso_machine.specs.Slots.{queue_at}
use Rattle.tso_machine.specs.declared.state.Pending.{Pending}
use Rattle.theory_tso.specs.ReadWords.{source_digit}
use Rattle.theory_tso_key.specs.Ways.{near_by_word}

-- the last write of a location, as one of none of the six threads reads it
abbrev pub last_as : List LastWrite → ℕ → ℕ
last_as last l = source_digit 6 (event_of (get_or last l unwritten))

unfoldable pub carried_near : Program → List LastWrite → List ℕ → List ℕ → ℕ → ℕ → Bool
carried_near p last words ways t u =
    not (eqb t u) && (together p.groups u t && near_by_word (last_as last) (get_or words t 0) (get_or words u 0) (get_or ways u 0))

-- the answer r says of every program with these lines whether thread t is near u
pub record IsNear (class : List ℕ) (last : List LastWrite) (words ways : List ℕ) (t u : ℕ) (r : Bool) : Type 0 where
  pub says : (groups : ℕ) (p : Program) → Lined class groups p → r ≡ carried_near p last words ways t u

-- ---- QUEUES FROM ARRAYS
-- of the first so many threads what is pending
abbrev pub queues_to : List Pending → List ℕ → List ℕ → ℕ → List (List Entry)
queues_to slots heads tails n = map (λ t. queue_at slots (get_or heads t 0) (get_or tails t 0 - get_or heads t 0)) (range 0 n)

-- of each of the six how much is pending
abbrev pub pending_at : List ℕ → List ℕ → List ℕ
pending_at heads tails = map (λ t. get_or tails t 0 - get_or heads t 0) (range 0 6)

-- What may be asked of a machine, by its arrays alone: said of every machine, also of one that holds no state.
use Rattle.std.specs.Prelude.{ℕ, Bool, not, ◌&&◌, List, ltb, get_or}
use Rattle.spec_schedules.specs.Lists.{any, all, range}
use Rattle.machine_access.specs.declared.thread.ThreadState.{ThreadState}
use Rattle.machine.specs.declared.state.Machine.{Machine}
use Rattle.machine.specs.Held.{idle, thread_at}

-- t is one of the six numbers, and the thread's next instruction stands before its end
abbrev pub enabled_by : List ℕ → Machine → ℕ → Bool
enabled_by lengths m t = ltb t 6 && ltb (thread_at m t).at (get_or lengths t 0)

-- none of the six threads may step
abbrev pub ended_by : List ℕ → Machine → Bool
ended_by lengths m = all (λ t. not (enabled_by lengths m t)) (range 0 6)

-- an assertion of one of the six threads failed
abbrev pub some_failed : List ThreadState → Bool
some_failed threads = any (λ t. (get_or threads t idle).failed) (range 0 6)

-- an assertion of one of the machine's threads failed
abbrev pub fails_by : Machine → Bool
fails_by m = some_failed m.threads

-- The values of a key as the code gathers them, thread by thread.
use Rattle.std.specs.Prelude.{ℕ, zero, suc, ◌+◌, ◌-◌, ◌*◌, cond, List, [], ◌++◌, map, ltb, get_or}
use Rattle.machine.specs.Held.{idle}
use Rattle.machine_access.specs.declared.thread.ThreadState.{ThreadState}
use Rattle.spec_schedules.specs.Lists.{range, filter}
use Rattle.spec_schedules.specs.Sets.{has}

-- the registers in the set, of four
abbrev pub chosen : ℕ → List ℕ → List ℕ
chosen mask registers = map (λ r. get_or registers r 0) (filter (has mask) (range 0 4))

-- of thread t, which stands so, the registers that its row's set has; nothing where it has ended
abbrev pub live_of : List ℕ → List ℕ → ThreadState → ℕ → List ℕ
live_of lengths masks k t = cond (ltb k.at (get_or lengths t 0)) (chosen (get_or masks (t * 16 + k.at) 0) k.registers) []

-- of the first so many threads
unfoldable pub gathered : List ℕ → List ℕ → List ThreadState → ℕ → List ℕ
gathered lengths masks threads zero = []
gathered lengths masks threads (suc t) = gathered lengths masks threads t ++ live_of lengths masks (get_or threads t idle) t

-- of each of the six how many instructions are left
abbrev pub left_at : List ℕ → List ThreadState → List ℕ
left_at lengths threads = map (λ t. get_or lengths t 0 - (get_or threads t idle).at) (range 0 6)

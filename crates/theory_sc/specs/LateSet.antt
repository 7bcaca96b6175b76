-- The late set: the threads that have not ended and whose next step would come late (R1). It is carried from step to step, so that no rule
-- looks at older steps.
use Rattle.std.specs.Prelude.{ℕ, Bool, ◌||◌, ltb}
use Rattle.spec_file.specs.Program.{Program}
use Rattle.spec_schedules.specs.Order.{Schedule}
use Rattle.theory_search.specs.LateSet.{goes_on, late_at}
use Rattle.spec_sc.specs.State.{State, enabled}
use Rattle.spec_sc.specs.Actions.{Action, action, conflict}
use Rattle.spec_sc.specs.Sequential.{sc}
use Rattle.spec_schedules.specs.Sets.{has}
use Rattle.theory_sc.specs.Sets.{set_of}

-- whether t is late behind a step a that led to σ: it was late or is smaller than the thread that stepped, is not that thread, and its next
-- access does not have to stay behind a's
unfoldable pub late_now : State → ℕ → Action → ℕ → Bool
late_now σ late a t = goes_on (enabled σ) a.thread (λ u. ltb u a.thread || has late u) (λ u. conflict a (action σ u)) t

-- the late set behind that step
unfoldable pub late_behind : State → ℕ → Action → ℕ
late_behind σ late a = set_of (late_now σ late a) 6

-- the late set behind a program's prefix
unfoldable pub late_set : Program → Schedule → ℕ
late_set p v = set_of (late_at sc p v) 6

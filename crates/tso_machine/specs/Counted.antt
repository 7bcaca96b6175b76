-- Where each thread's slots begin.
use Rattle.std.specs.Prelude.{ℕ, ◌<◌, ◌≡◌, min, List, length, get_or}
use Rattle.machine_access.specs.Counted.{accesses_below}

-- thread t's slots begin behind those of the threads before it
pub record HoldsFirst (code lengths : List ℕ) (threads : ℕ) (first : List ℕ) : Type 0 where
  pub size : length first ≡ 6
  pub each : (t : ℕ) → t < 6 → get_or first t 0 ≡ accesses_below code lengths (min threads t)

-- A TEST OF WHERE A RUN ENDS, in any step system, seen as a failure that its last step brings about: what holds of the first failing schedule by states
-- then holds of the first that ends so.
use Rattle.std.specs.Prelude.{ℕ, Bool, false, cond}
use Rattle.spec_schedules.specs.System.{System, ended}

module _ (M : System) (test : M.State → Bool) where
  -- nobody may step any more, and the state passes
  unfoldable pub ends_so : M.State → Bool
  ends_so σ = cond (ended M σ) (test σ) false

  -- the step ends the run so
  unfoldable pub ends_by : M.State → ℕ → Bool
  ends_by σ t = ends_so (M.step σ t)

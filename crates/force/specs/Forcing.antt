-- THE PROMISE about an accepted file and a set, as one claim. `violation_file` is what the contract of the
-- violation call equates its answer and the later content of its output with.
use Rattle.std.specs.Prelude.{ℕ, ◌≤◌, ◌≡◌, List, length}
use Rattle.spec_file.specs.Over.{over}
use Rattle.spec_file.specs.Program.{Program}
use Rattle.spec_schedules.specs.Order.{Schedule}
use Rattle.spec_sc.specs.State.{start}
use Rattle.spec_model.specs.Answers.{fails_first}
use Rattle.spec_model.specs.OnFile.{violation_file}
use Rattle.spec_sc.specs.Sequential.{sc}
use Rattle.spec_force.specs.Game.{hostile, ExactlyOne}
use Rattle.spec_force.specs.Forced.{game_of, CanForce, Answer, Forced}

pub record Forcing (file : List ℕ) (set : ℕ) (p : Program) : Type 0 where
  -- EXACTLY ONE side can force its end
  pub exactly_one : ExactlyOne (game_of set) hostile (start p)
  -- IF THE HOSTILE SIDE CAN FORCE ITS END, the violation call, with an output that is not too short, reports a schedule
  pub violation : CanForce hostile set p → (out : List ℕ) → 24 ≤ length out
      → (s : Schedule) × (violation_file sc file out ≡ (fails_first s, over s out))
  -- ONLY ONE ANSWER is right: what the call's contract equates its answer with
  pub only : (a b : Answer) → Forced file set a → Forced file set b → a ≡ b

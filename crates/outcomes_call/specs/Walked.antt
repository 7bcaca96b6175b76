-- THE LIST WALKED FOR ITS FIRSTS: some rows are written, and of what is yet to come some firsts are passed over and the next ones fill the room.
use Rattle.std.specs.Prelude.{ℕ, ◌-◌, ◌≤◌, ◌≡◌, length, take, drop}
use mathlib.Core.List.{List, ◌++◌, Memᴰ}
use Rattle.spec_file.specs.Over.{over}
use Rattle.spec_file.specs.Program.{Program}
use Rattle.spec_schedules.specs.Lists.{filter}
use Rattle.spec_schedules.specs.Order.{Schedule}
use Rattle.spec_model.specs.Model.{Model}
use Rattle.spec_across.specs.Under.{outcome_under}
use Rattle.spec_outcomes.specs.Firsts.{is_first, firsts_of}
use Rattle.spec_outcomes.specs.OutcomesCall.{outcome_rows}
use Rattle.outcomes_call.specs.declared.by_lists.Tally.{Tally}

pub record Walks (M : Model) (p : Program) (from room : ℕ) (held : List ℕ) (rest : List Schedule) (t : Tally) (out : List ℕ) : Type 0 where
  -- these are written
  pub written : List Schedule
  pub counted : t.rows ≡ length written
  pub few : t.rows ≤ room
  pub eights : (s : Schedule) → Memᴰ s written → length (outcome_under M p s).memory ≡ 8
  pub shown : out ≡ over (outcome_rows M p written) held
  -- and with what the rest adds they are the rows from the number on
  pub whole : written ++ take (room - t.rows) (drop t.left (filter (is_first M p) rest)) ≡ take room (drop from (firsts_of M p))

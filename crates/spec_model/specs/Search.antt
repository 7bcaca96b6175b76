-- Sound rules, the test at a full schedule, and what the search finds: `sought`.
use Rattle.std.specs.Prelude.{Bool, true, false, List}
use Rattle.spec_file.specs.Program.{Program}
use Rattle.spec_schedules.specs.Lists.{filter}
use Rattle.spec_schedules.specs.Order.{Schedule}
use Rattle.spec_model.specs.Model.{Model, failing}
use Rattle.spec_model.specs.Alike.{list_of}

module _ (M : Model) where
  -- the list that is walked: the listed schedules, or those of them that fail
  unfoldable pub sought : Bool → Program → List Schedule
  sought false p = list_of M p
  sought true p = filter (failing M p) (list_of M p)

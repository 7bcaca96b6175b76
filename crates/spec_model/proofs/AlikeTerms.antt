-- The test of being alike.
use mathlib.Core.Bool.{Bool}
use Rattle.spec_file.specs.Program.{Program}
use Rattle.spec_schedules.specs.Order.{Schedule}
use Rattle.spec_model.specs.Exchange.{permitted}
use Rattle.spec_model.specs.Model.{Model, graph}
use Rattle.spec_model.specs.Alike.{alike_by}

-- whether two schedules are alike
unfoldable pub alike : (M : Model) → Program → Schedule → Schedule → Bool
alike M p a b = alike_by M (permitted p) (graph M p a) (graph M p b)

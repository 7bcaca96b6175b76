-- The list by rows and by pages, in any memory model: `rows_of`.
use Rattle.std.specs.Prelude.{ℕ, List}
use Rattle.spec_file.specs.Program.{Program}
use Rattle.spec_schedules.specs.Order.{Schedule}
use Rattle.spec_model.specs.Model.{Model, failing}
use Rattle.spec_calls.specs.Rows as Rows

module _ (M : Model) (p : Program) where
  -- the rows of these schedules, one after the other
  abbrev pub rows_of : List Schedule → List ℕ
  rows_of ss = Rows.rows_of M.need (failing M p) ss

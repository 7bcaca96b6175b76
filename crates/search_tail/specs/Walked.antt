-- What the search adds to the rows in its output.
use Rattle.std.specs.Prelude.{ℕ, List}
use Rattle.spec_file.specs.Program.{Program}
use Rattle.spec_schedules.specs.Order.{Schedule}
use Rattle.spec_model.specs.Model.{failing}
use Rattle.spec_sc.specs.Sequential.{sc}
use Rattle.listing_cursor.specs.Walked as Pages

-- the rows of these schedules are added behind those that stand in the output, as far as there is room
abbrev pub Adds : Program → ℕ → List Schedule → List ℕ → ℕ → List ℕ → ℕ → Type 0
Adds p room found out rows out' rows' = Pages.Adds 24 (failing sc p) room found out rows out' rows'

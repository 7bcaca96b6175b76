-- Rows of listed schedules, in any memory model.
use Rattle.std.specs.Prelude.{ℕ, ◌*◌, ◌≤◌, length}
use mathlib.Core.List.{List, Memᴰ}
use Rattle.spec_file.specs.Program.{Program}
use Rattle.spec_schedules.specs.Order.{Schedule}
use Rattle.spec_model.specs.Model.{Model}
use Rattle.spec_model.specs.Alike.{list_of}
use Rattle.spec_calls.specs.Rows.{row_size}
use Rattle.listing_cursor.specs.ListRows.{Shown}

-- so many rows of these listed schedules stand in front of a buffer
pub record Rows (M : Model) (p : Program) (ss : List Schedule) (rows : List ℕ) (n : ℕ) : Type 0 where
  pub held : List ℕ
  pub shown : Shown M p ss held rows n
  pub within : n * row_size M.need ≤ length rows
  pub listed : (s : Schedule) → Memᴰ s ss → Memᴰ s (list_of M p)
  pub short : (s : Schedule) → Memᴰ s ss → length s ≤ M.need

-- What a search adds to the rows in its output.
use Rattle.std.specs.Prelude.{ℕ, ◌*◌, ◌≤◌, Bool, List, ◌++◌, length, take}
use Rattle.spec_schedules.specs.Order.{Schedule}
use Rattle.spec_calls.specs.Rows.{row_size}
use Rattle.listing_cursor.specs.Rows.{Shown}

-- the rows of these schedules are added behind those that stand in the output, as far as there is room
pub record Adds (w : ℕ) (fails : Schedule → Bool) (room : ℕ) (found : List Schedule) (out : List ℕ) (rows : ℕ) (out' : List ℕ) (rows' : ℕ)
    : Type 0 where
  pub shown : (ss : List Schedule) (held : List ℕ) → room * row_size w ≤ length held → length ss ≤ room → Shown w fails ss held out rows
      → Shown w fails (take room (ss ++ found)) held out' rows'

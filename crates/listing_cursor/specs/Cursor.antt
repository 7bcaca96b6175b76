-- A cursor in a list that is walked, and a page: the rows of the first so many of what is yet to come, with the cursor behind them.
use Rattle.std.specs.Prelude.{ℕ, ◌+◌, ◌/◌, ◌<◌, ◌≡◌, Bool, true, false, cond, List, [], length, take, drop}
use Rattle.std.proofs.Math.Option.{Option, none, some}
use Rattle.spec_schedules.specs.Order.{Schedule}
use Rattle.spec_schedules.specs.Found.{after}
use Rattle.listing_cursor.specs.declared.cursor.Cursor.{Cursor}
use Rattle.listing_cursor.specs.declared.cursor.Cursor.TheVariants.{Beginning, Behind, End}
use Rattle.listing_cursor.specs.declared.cursor.Page.{Page}
use Rattle.spec_calls.specs.Rows.{row_size}
use Rattle.listing_cursor.specs.Rows.{Shown}

-- what of a list is yet to come at a cursor: all of it, what is after this schedule, or nothing
unfoldable pub from : Cursor → List Schedule → List Schedule
from Beginning l = l
from (Behind s) l = after (some (take s.steps s.schedule)) l
from End l = []

-- the bound of a search for what is yet to come: the schedule behind which the cursor stands, if it stands behind one
abbrev pub bound_of : Cursor → Option Schedule
bound_of Beginning = none
bound_of (Behind s) = some (take s.steps s.schedule)
bound_of End = none

-- whether it is known that nothing is to come any more
abbrev pub is_end : Cursor → Bool
is_end Beginning = false
is_end (Behind s) = false
is_end End = true

-- the most pages that are to come
abbrev pub pages : Cursor → List Schedule → ℕ
pages c l = length (from c l) + cond (is_end c) 0 1

pub record Paged (w : ℕ) (fails : Schedule → Bool) (l : List Schedule) (c : Cursor) (held out : List ℕ) (r : Page) : Type 0 where
  -- the rows of what is yet to come, as many as there is room for, stand over the front of what the buffer held
  pub shown : Shown w fails (take (length held / row_size w) (from c l)) held out r.rows
  -- behind the page what was to come is still to come, but for the schedules of its rows
  pub rest : from r.cursor l ≡ drop r.rows (from c l)
  -- where the buffer had room for more rows the cursor behind the page is at the end
  pub ends : r.rows < length held / row_size w → is_end r.cursor ≡ true

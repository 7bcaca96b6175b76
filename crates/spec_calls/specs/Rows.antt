-- Schedules in a lent buffer: a row for each, one after the other. A row has the number of steps, 1 where the schedule fails and 0 where it
-- does not, and the steps, with zeros behind them up to the row's width: 24 under sequential consistency, 48 under total store order.
use Rattle.std.specs.Prelude.{ℕ, ◌+◌, Bool, cond, length, get_or}
use mathlib.Core.List.{List, ◌∷◌, flat_map}
use Rattle.spec_file.specs.Tabulate.{tabulate}
use Rattle.spec_schedules.specs.Order.{Schedule}

-- a row of a schedule that fails or not, with room for w steps
unfoldable pub row_bytes : ℕ → Schedule → Bool → List ℕ
row_bytes w s f = length s ∷ cond f 1 0 ∷ tabulate (λ k. get_or s k 0) w

-- the number of bytes of a row with room for w steps
abbrev pub row_size : ℕ → ℕ
row_size w = w + 2

module _ (w : ℕ) (fails : Schedule → Bool) where
  -- the row of a schedule, of which it is known whether it fails
  unfoldable pub row_of : Schedule → List ℕ
  row_of s = row_bytes w s (fails s)

  -- the rows of these schedules, one after the other
  unfoldable pub rows_of : List Schedule → List ℕ
  rows_of ss = flat_map row_of ss

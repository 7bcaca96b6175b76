-- `failing_in` reads one row's second byte after another. The invariant: so many of the rows read fail.
use Rattle.std.proofs.Common.{ℕ, ◌≤◌, ◌≡◌, Bool, List, length, take}
use Rattle.spec_schedules.specs.Lists.{filter}
use Rattle.spec_schedules.specs.Order.{Schedule}
use Rattle.listing_cursor.specs.Rows.{Shown}
use Rattle.listing_cursor.proofs.reading.failing_in.Given as goal

abbrev pub Fails : List ℕ → ℕ → ℕ → ℕ → ℕ → Type 0
Fails rows width n f k =
    (f ≤ k) × (k ≤ n)
    × ((fails : Schedule → Bool) (ss : List Schedule) (held : List ℕ) → Shown width fails ss held rows n → f ≡ length (filter fails (take k ss)))

abbrev pub invariant-loop-k : goal.invariant-loop-k
invariant-loop-k l = Fails l.rows l.width l.n l.failing l.k

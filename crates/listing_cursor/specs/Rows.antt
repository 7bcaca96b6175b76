-- The size of a row, and rows that stand over the front of a buffer.
use Rattle.std.specs.Prelude.{ℕ, ◌≡◌, Bool, List, length}
use Rattle.spec_file.specs.Over.{over}
use Rattle.spec_schedules.specs.Order.{Schedule}
use Rattle.spec_calls.specs.Rows.{rows_of}

module _ (w : ℕ) (fails : Schedule → Bool) where
  -- the rows of these schedules, so many, stand over the front of what the buffer held
  pub record Shown (ss : List Schedule) (held : List ℕ) (out : List ℕ) (rows : ℕ) : Type 0 where
    pub counted : rows ≡ length ss
    pub text : out ≡ over ((rows_of w fails) ss) held

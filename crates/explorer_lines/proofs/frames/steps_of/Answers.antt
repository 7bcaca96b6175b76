-- `steps_of` reads the first byte of the row.
use Rattle.std.proofs.Common.{ℕ, ◌≡◌, ap, ◌∙◌, Bool, List, arith, length, get_or}
use Rattle.spec_schedules.specs.Order.{Schedule}
use Rattle.spec_calls.specs.Rows.{row_bytes}
use Rattle.listing_cursor.proofs.RowsRead.{row_steps_count}
use Rattle.explorer_lines.proofs.frames.steps_of.Goals as goal

counted : (s : Schedule) (f : Bool) (row : List ℕ) → row ≡ row_bytes 24 s f → get_or row 0 0 ≡ length s
counted s f row e = ap (λ (l : List ℕ). get_or l 0 0) e ∙ row_steps_count 24 s f

pub returns-clause-steps : goal.returns-clause-steps
returns-clause-steps c = λ s f e h. let n : c.wide.result ≡ length s = c.wide.ensures.same ∙ counted s f c.args.row e in grind arith

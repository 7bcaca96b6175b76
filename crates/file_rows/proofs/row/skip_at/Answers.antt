-- `skip_at` reads the skip of a `22` and of a `24`, and 0 of any other row.
use Rattle.std.proofs.Common.{◌∙◌, sym, arith, lit<}
use mathlib.Core.Logic.{inl, inr}
use Rattle.spec_file.proofs.Skips.{no_skip, equal_skip, at_most_skip}
use Rattle.file_rows.proofs.Rows.{row_byte, row_first}
use Rattle.file_rows.proofs.row.skip_at.Goals as goal

pub returns-then-b-eq36 : goal.returns-then-b-eq36
returns-then-b-eq36 c =
    let code = c.args.code.now in
    let row = c.args.row in
    c.wide.ensures.same ∙ sym (elim c.if-b-eq36.either [
      | inl e ↦ equal_skip _ (row_first code row ∙ e)
      | inr e ↦ at_most_skip _ (row_first code row ∙ e.1)
    ] ∙ row_byte code row 7 (lit< tt))

pub returns-else-b-eq36 : goal.returns-else-b-eq36
returns-else-b-eq36 c =
    let first = row_first c.args.code.now c.args.row in
    let other = c.if-b-eq36.false in
    sym (no_skip _ (λ e. omega arith) (λ e. omega arith))

-- `operand_at` reads a kind and four bytes of a row.
use Rattle.std.proofs.Common.{rules, arith, eq-eqb, ne_eqb}
use Rattle.spec_file.specs.Frames.{operand}
use Rattle.file_rows.proofs.Rows.{row_byte, row_word}
use Rattle.file_rows.proofs.row.operand_at.Goals as goal

pub returns-then-code-at-eq1 : goal.returns-then-code-at-eq1
unfolding operand
returns-then-code-at-eq1 c =
    rw (
      row_byte c.args.code.now c.args.row c.args.j (omega arith),
      eq-eqb _ _ c.if-code-at-eq1.true,
      row_word c.args.code.now c.args.row c.args.j (search rules),
      ← c.join-v.ensures,
    )

pub returns-else-code-at-eq1 : goal.returns-else-code-at-eq1
unfolding operand
returns-else-code-at-eq1 c =
    rw (
      row_byte c.args.code.now c.args.row c.args.j (omega arith),
      ne_eqb _ _ c.if-code-at-eq1.false,
      row_word c.args.code.now c.args.row c.args.j (search rules),
      ← c.join-v.ensures,
    )

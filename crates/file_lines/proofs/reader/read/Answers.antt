use Rattle.std.proofs.Common.{arith, sym}
use Rattle.spec_file.proofs.Meaning.{no_remark}
use Rattle.file_lines.proofs.Meaning.{line_of_empty, line_of_remark}
use Rattle.file_lines.proofs.Passed.{digits_frame, others_broken}
use Rattle.file_lines.proofs.reader.read.Goals.{then-line-ne0-via-then-line-ne0, then-line-ne0-via-else-line-ne0+then-not-all_digits}
use Rattle.file_lines.proofs.reader.read.Goals as goal

pub returns-then-line-eq0 : goal.returns-then-line-eq0
returns-then-line-eq0 c = sym (line_of_empty _ c.if-line-eq0.true)

pub returns-then-line-eq35 : goal.returns-then-line-eq35
returns-then-line-eq35 c = sym (line_of_remark _ (omega arith) c.if-line-eq35.true)

pub returns-then-line-ne0 : goal.returns-then-line-ne0
returns-then-line-ne0 c =
    sym (others_broken _ (no_remark _ c.if-line-eq35.false) (λ (even, digits). elim c.then-line-ne0.branch [
      | then-line-ne0-via-then-line-ne0 w ↦ w.if-line-ne0.true even
      | then-line-ne0-via-else-line-ne0+then-not-all_digits w ↦ let d = w.all_digits.ensures.1 digits in absurd cc
    ]))

pub returns : goal.returns
returns c = sym (digits_frame _ (no_remark _ c.if-line-eq35.false) (omega arith) c.if-line-ne0.false (c.all_digits.ensures.0 c.if-not-all_digits.false))

-- Behind the end of the frame the answer is the default; within it the byte is spelt by the two characters. Assumes nothing.
use Rattle.std.proofs.Common.{arith, sym}
use lib.ListN.{get_or-eq_default}
use Rattle.spec_file.specs.Frame.{pairs}
use Rattle.spec_file.proofs.Pairs.{length_pairs, get_d_pairs}
use Rattle.file_lines.proofs.reader.byte_at.Goals as goal

pub returns-then-line-k : goal.returns-then-line-k
returns-then-line-k c =
    let l = c.args.line.now in
    sym (get_or-eq_default (pairs l) 0 {n = c.args.k} (omega (arith, length_pairs l)))

pub returns : goal.returns
returns c =
    let s = c.args in
    rw (c.value_of-2.ensures.0, c.value_of.ensures.0) (sym (get_d_pairs s.line.now s.k (omega arith)))

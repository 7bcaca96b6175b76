-- `next` by where the printing stands: the line of a refusal, the walk, or nothing.
use Rattle.std.proofs.Common.{arith}
use Rattle.explorer_lines.proofs.NextLines.{next_refusal, next_none}
use Rattle.explorer_lines.proofs.pieces.next.Goals as goal

pub returns-in-Refused : goal.returns-in-Refused
returns-in-Refused c = rw c.in-Refused.is (next_refusal c.in-Refused.r c.args.out.now c.refusal_line.new.out c.refusal_line.result c.requires.1 c.refusal_line.ensures)

pub returns-in-Ended : goal.returns-in-Ended
returns-in-Ended c = rw c.in-Ended.is (omega arith, next_none)

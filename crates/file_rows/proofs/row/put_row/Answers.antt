use Rattle.std.proofs.Common.{◌≡◌, arith, length-set}
use Rattle.file_rows.proofs.Written.{written_none, written_more}
use Rattle.file_rows.proofs.row.put_row.Goals as goal

pub loop-j-init : goal.loop-j-init
loop-j-init c = (c.requires.2, written_none _ _ _)

pub loop-j-preserved : goal.loop-j-preserved
loop-j-preserved c = (rw length-set c.loop-j.invariant.0, written_more _ _ _ _ _ _ c.loop-j.invariant.1 (omega arith) c.byte_at.ensures)

pub returns : goal.returns
returns c = let e : c.loop-j.j ≡ c.args.n = omega arith in rw (← e) c.loop-j.invariant.1

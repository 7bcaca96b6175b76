use Rattle.std.proofs.Common.{arith}
use lib.Seq.{length-take-le}
use Rattle.spec_file.specs.Over.{over}
use Rattle.file_rows.proofs.copying.put_front.Goals as goal

pub returns : goal.returns
unfolding over
returns c = rw (length-take-le c.args.n c.args.bytes.now (omega (arith, c.requires.0)), c.copy_from_slice.ensures.after)

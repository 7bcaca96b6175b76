use Rattle.std.proofs.Common.{arith}
use Rattle.spec_file.proofs.Split.{line_stops, line_goes_on, line_none}
use Rattle.file_lines.proofs.splitter.line_end.Goals as goal

pub returns-then-text-i-eq10 : goal.returns-then-text-i-eq10
returns-then-text-i-eq10 c = omega (arith, line_stops c.args.text.now c.loop-i.i c.loop-i-test.true c.if-text-i-eq10.true)

pub loop-i-preserved : goal.loop-i-preserved
loop-i-preserved c = (omega arith, omega (arith, line_goes_on c.args.text.now c.loop-i.i c.loop-i-test.true c.if-text-i-eq10.false))

pub returns : goal.returns
returns c = omega (arith, line_none c.args.text.now c.loop-i.i c.loop-i-test.false)

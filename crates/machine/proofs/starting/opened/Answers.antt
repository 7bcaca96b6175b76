-- A thread exists or it does not.
use Rattle.std.proofs.Common.{rules, arith}
use Rattle.machine.proofs.HeldStart.{opened_held, missing_held}
use Rattle.machine.proofs.starting.opened.Goals as goal

pub settle-requires : goal.settle-requires
settle-requires c = (search rules, c.requires.1 c.if-t-program.true, omega arith)

pub returns-then-t-program : goal.returns-then-t-program
returns-then-t-program c =
    λ p loaded. opened_held c.args.program.now.code c.args.program.now.lengths c.args.program.now.threads p loaded c.args.t c.settle.result c.if-t-program.true c.settle.ensures.local c.settle.ensures.within.2

pub returns : goal.returns
returns c =
    let args = c.args in
    let h = c.default.ensures.1.1 in
    λ p loaded. rw (h.0, h.1) (missing_held args.program.now.code args.program.now.lengths args.program.now.threads p loaded args.t _ c.if-t-program.false)

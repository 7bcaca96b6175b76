-- `by_first` reads the schedule that was found; its first byte is a thread, so that one more fits.
use Rattle.std.proofs.Common.{rules, arith, ◌≡◌, length}
use Rattle.force.proofs.FirstFailing.{said_none, said_passes, said_steps, said_small}
use Rattle.force.proofs.answering.by_first.Goals as goal

pub returns-in_default : goal.returns-in_default
returns-in_default c = said_none c.args.v (search rules)

pub returns-then-s-eq0 : goal.returns-then-s-eq0
returns-then-s-eq0 c = said_passes c.args.v c.in-Some.s c.in-Some.is c.if-s-eq0.true

pub overflow_add-result : goal.overflow_add-result
overflow_add-result c =
    let s = c.in-Some.s in
    let size : length s.schedule ≡ 24 = search rules in
    let small = said_small c.args.v s c.in-Some.is (omega (arith, c.if-s-eq0.false)) (omega (arith, size)) c.requires.0 c.requires.1 c.requires.2 in
    omega (arith, small)

pub returns-else-s-eq0 : goal.returns-else-s-eq0
returns-else-s-eq0 c =
    let s = c.in-Some.s in
    let size : length s.schedule ≡ 24 = search rules in
    said_steps c.args.v s c.in-Some.is (omega (arith, c.if-s-eq0.false)) (omega (arith, size))

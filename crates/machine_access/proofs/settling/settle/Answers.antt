use Rattle.std.proofs.Common.{arith, sym, refl, ◌∙◌, rules}
use Rattle.machine_access.proofs.HeldSettling.{loop_ends, loop_stands, loop_fails, loop_goes}
use Rattle.machine_access.proofs.settling.settle.Goals as goal

pub loop-i-init : goal.loop-i-init
loop-i-init c = (refl, search rules)

pub returns-then-is_access : goal.returns-then-is_access
returns-then-is_access c =
    let args = c.args in
    let loop = c.loop-i in
    let loop-test = c.loop-i-test in
    record { local = loop_stands args.code.now args.t args.n _ loop.i loop.rs args.done loop.invariant.0 loop-test.true (sym c.is_access.ensures ∙ c.if-is_access.true); within = (search rules, search rules, search rules) }

pub returns-in_default-clause-local : goal.returns-in_default-clause-local
returns-in_default-clause-local c =
    let args = c.args in
    let loop = c.loop-i in
    loop_fails args.code.now args.t args.n _ loop.i loop.rs args.done loop.invariant.0 c.loop-i-test.true (sym c.is_access.ensures ∙ c.if-is_access.false) c.carried_out.result c.carried_out.ensures c.in_default.is

pub loop-i-preserved : goal.loop-i-preserved
loop-i-preserved c =
    let args = c.args in
    let loop = c.loop-i in
    (loop_goes args.code.now args.t args.n _ loop.i loop.rs args.done loop.invariant.0 c.loop-i-test.true (sym c.is_access.ensures ∙ c.if-is_access.false) c.carried_out.result c.carried_out.ensures c.wide.result c.in-Some.c c.in-Some.is c.wide.ensures.same, search rules)

pub returns : goal.returns
returns c =
    let args = c.args in
    let loop = c.loop-i in
    record { local = loop_ends args.code.now args.t args.n _ loop.i loop.rs args.done loop.invariant.0 c.loop-i-test.false args.n (omega arith); within = (search rules, search rules, search rules) }

-- A thread that has not ended may do its next access, unless that is locked and something is pending.
use Rattle.std.proofs.Common.{arith, le-ltb, le-leb, ◌∙◌}
use Rattle.tso_machine.proofs.CodeLooks.{may_over, may_row, may_idle, may_pending}
use Rattle.tso_machine.proofs.asking.may_access.Goals as goal

pub returns-else-at-program : goal.returns-else-at-program
returns-else-at-program c = let a = c.args in λ m σ held ei eh et. le-ltb _ _ c.if-at-program.false ∙ may_over a.program.now.code a.program.now.lengths a.t c.wide-u.result a.at a.head a.tail c.wide-u.ensures.same c.requires.0 m σ held ei c.if-at-program.false

pub returns-then-tail-head : goal.returns-then-tail-head
returns-then-tail-head c = let a = c.args in λ m σ held ei eh et. le-leb _ _ c.if-tail-head.true ∙ may_idle a.program.now.code a.program.now.lengths a.t c.wide-u.result a.at a.head a.tail c.wide-u.ensures.same c.requires.0 m σ held ei c.if-at-program.true eh et c.if-tail-head.true

pub overflow_add-u : goal.overflow_add-u
overflow_add-u c = let a = c.args in omega (arith, may_row a.program.now.code a.program.now.lengths a.t c.wide-u.result a.at a.head a.tail c.wide-u.ensures.same c.requires.0 c.requires.1 c.if-at-program.true)

pub locks_at-requires : goal.locks_at-requires
locks_at-requires c = let a = c.args in may_row a.program.now.code a.program.now.lengths a.t c.wide-u.result a.at a.head a.tail c.wide-u.ensures.same c.requires.0 c.requires.1 c.if-at-program.true

pub returns-else-tail-head : goal.returns-else-tail-head
returns-else-tail-head c = let a = c.args in λ m σ held ei eh et. may_pending a.program.now.code a.program.now.lengths a.t c.wide-u.result a.at a.head a.tail c.wide-u.ensures.same c.requires.0 m σ held ei c.if-at-program.true eh et c.if-tail-head.false c.locks_at.result c.locks_at.ensures

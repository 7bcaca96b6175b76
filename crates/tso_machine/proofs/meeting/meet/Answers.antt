-- The location, what is found there, and the step of sequential consistency on memory that shows it.
use Rattle.std.proofs.Common.{arith}
use Rattle.tso_machine.proofs.CodeSteps.{ready_row, met_code}
use Rattle.tso_machine.proofs.meeting.meet.Goals as goal

pub overflow_add-row : goal.overflow_add-row
overflow_add-row c = let a = c.args in omega (arith, ready_row a.program.now.lengths a.thread a.t c.wide-u.result c.requires.0 c.wide-u.ensures.same)

pub location_at-p-requires : goal.location_at-p-requires
location_at-p-requires c = let a = c.args in ready_row a.program.now.lengths a.thread a.t c.wide-u.result c.requires.0 c.wide-u.ensures.same

pub locks_at-requires : goal.locks_at-requires
locks_at-requires c = let a = c.args in ready_row a.program.now.lengths a.thread a.t c.wide-u.result c.requires.0 c.wide-u.ensures.same

pub returns : goal.returns
returns c = let a = c.args in λ m σ held eP ok near. met_code a.program.now.code a.program.now.lengths m a.t c.wide-u.result c.wide-u.ensures.same c.location_at-p.result c.wide-l.result c.wide-l.ensures.same c.look-f.result c.after_step-a.result c.locks_at.result _ eP c.location_at-p.ensures c.look-f.ensures c.after_step-a.ensures.step c.locks_at.ensures σ held (omega (arith, c.requires.0.six)) ok near

-- The change of the step, stored.
use Rattle.std.proofs.Common.{refl, ◌∙◌}
use Rattle.tso_machine.proofs.CodeSteps.{step_six, step_ready}
use Rattle.tso_machine.proofs.stepping.step.Goals as goal

pub bounds-n-u : goal.bounds-n-u
bounds-n-u c = step_six c.requires c.thread_of.ensures c.wide-u.ensures.same

pub bounds-n-u-2 : goal.bounds-n-u-2
bounds-n-u-2 c = step_six c.requires c.thread_of.ensures c.wide-u.ensures.same

pub bounds-n-u-3 : goal.bounds-n-u-3
bounds-n-u-3 c = step_six c.requires c.thread_of.ensures c.wide-u.ensures.same

pub lean_step-c-requires : goal.lean_step-c-requires
lean_step-c-requires c = step_ready c.requires c.thread_of.ensures c.wide-u.ensures.same

pub bounds-n-u-4 : goal.bounds-n-u-4
bounds-n-u-4 c = step_six c.requires c.thread_of.ensures c.wide-u.ensures.same

pub bounds-n-u-5 : goal.bounds-n-u-5
bounds-n-u-5 c = step_six c.requires c.thread_of.ensures c.wide-u.ensures.same

pub bounds-n-u-6 : goal.bounds-n-u-6
bounds-n-u-6 c = step_six c.requires c.thread_of.ensures c.wide-u.ensures.same

pub returns : goal.returns
returns c = λ σ held ok near. c.lean_step-c.ensures.step c.args.m σ c.wide-u.result (c.wide-u.ensures.same ∙ c.thread_of.ensures) held refl ok near

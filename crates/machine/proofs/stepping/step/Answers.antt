-- A step: its thread's registers and memory, given back whole, and the last write of its place are put into the machine.
use Rattle.std.proofs.Common.{ℕ, sym, subst}
use Rattle.machine.specs.Held.{thread_at, ReadyThread}
use Rattle.machine.proofs.HeldStep.{stored_whole}
use Rattle.machine.proofs.stepping.step.Goals as goal

pub after_step-a-requires : goal.after_step-a-requires
after_step-a-requires c =
    let args = c.args in
    let wide = c.wide-u in
    subst (λ (v : ℕ). ReadyThread args.program.now.lengths (thread_at args.m v) args.t) (sym wide.ensures.same) c.requires

pub returns : goal.returns
returns c =
    let args = c.args in
    let wide = c.wide-u in
    let after-step = c.after_step-a in
    λ σ held ok near.
    rw (c.last_behind.ensures, c.note_of.ensures) (stored_whole args.program.now.code args.program.now.lengths args.m args.t wide.result after-step.result wide.ensures.same after-step.ensures.step σ held ok near)

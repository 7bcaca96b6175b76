-- `met` lets the thread step on a memory that holds x everywhere.
use Rattle.std.proofs.Common.{rules, ℕ, ◌%◌, ◌≤◌, ◌<◌, ap, subst, get_or}
use Rattle.judge_values.proofs.HeldAlone.{met_ended, met_moves}
use Rattle.judge_values.proofs.by_itself.met.Goals as goal

pub bounds-program-wide : goal.bounds-program-wide
bounds-program-wide c = let w = c.wide.ensures.same in let h = c.requires.0 in search rules

pub returns-then-program-wide : goal.returns-then-program-wide
returns-then-program-wide c =
    let args = c.args in
    let w = c.wide.ensures.same in
    λ m σ here H near. met_ended args.program.now.code args.program.now.lengths m σ args.x H args.t args.thread here c.requires.0
    (subst (λ (k : ℕ). get_or args.program.now.lengths k 0 ≤ args.thread.at) w c.if-program-wide.true)

pub lean_step-s-requires : goal.lean_step-s-requires
lean_step-s-requires c =
    let args = c.args in
    let w = c.wide.ensures.same in
    record {
      six = c.requires.0;
      sixteen = c.requires.1;
      left = subst (λ (k : ℕ). args.thread.at < get_or args.program.now.lengths k 0) w c.if-program-wide.false;
      bounded = c.requires.2;
    }

pub returns : goal.returns
returns c =
    let args = c.args in
    let w = c.wide.ensures.same in
    λ m σ here H near. met_moves args.program.now.code args.program.now.lengths m σ args.x H args.t args.thread here c.requires.0 near
    (subst (λ (k : ℕ). args.thread.at < get_or args.program.now.lengths k 0) w c.if-program-wide.false) c.lean_step-s.result c.lean_step-s.ensures
    _ _ (ap (λ (k : ℕ). k % 8) c.wide-l.ensures.same) c.choose.ensures

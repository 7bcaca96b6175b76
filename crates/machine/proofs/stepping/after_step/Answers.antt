-- A step given back whole: the access, the thread settled behind it, and the place's value put into memory.
use Rattle.std.proofs.Common.{rules, ℕ, ◌<◌, ◌≤◌, arith, sym, subst, get_or}
use Rattle.machine.proofs.HeldStep.{after_holds}
use Rattle.machine.proofs.stepping.after_step.Goals as goal

pub overflow_add-u : goal.overflow_add-u
overflow_add-u c =
    let pre = c.requires in
    let wide = c.wide-u in
    omega (arith, wide.ensures.same, pre.six, pre.left, pre.sixteen, pre.bounded)

pub accessed_at-a-requires : goal.accessed_at-a-requires
accessed_at-a-requires c =
    let pre = c.requires in
    let wide = c.wide-u in
    omega (arith, wide.ensures.same, pre.six, pre.left, pre.sixteen, pre.bounded)

pub overflow_add-at : goal.overflow_add-at
overflow_add-at c =
    let pre = c.requires in
    let wide = c.wide-u in
    omega (arith, wide.ensures.same, pre.six, pre.left, pre.sixteen, pre.bounded)

pub overflow_add-thread : goal.overflow_add-thread
overflow_add-thread c =
    let pre = c.requires in
    let wide = c.wide-u in
    omega (arith, wide.ensures.same, pre.six, pre.left, pre.sixteen, pre.bounded)

pub settled-k-requires : goal.settled-k-requires
settled-k-requires c =
    let pre = c.requires in
    let args = c.args in
    let wide = c.wide-u in
    let short = subst (λ (v : ℕ). get_or args.program.now.lengths v 0 ≤ 16) (sym wide.ensures.same) pre.sixteen in
    let left = subst (λ (v : ℕ). args.thread.at < get_or args.program.now.lengths v 0) (sym wide.ensures.same) pre.left in
    (omega (arith, wide.ensures.same, pre.six), short, omega (arith, left))

pub returns : goal.returns
returns c =
    let pre = c.requires in
    let args = c.args in
    let wide = c.wide-u in
    let accessed-at = c.accessed_at-a in
    let settled = c.settled-k in
    let wide2 = c.wide-l in record {
      within = search rules;
      step = λ m σ et em held ok near.
          rw (c.with_at-values.ensures, c.choose.ensures) (after_holds args.program.now.code args.program.now.lengths m σ args.t wide.result args.thread args.memory accessed-at.result settled.result wide2.result
          wide.ensures.same wide2.ensures.same
          (record { left = subst (λ (v : ℕ). args.thread.at < get_or args.program.now.lengths v 0) (sym wide.ensures.same) pre.left; access = accessed-at.ensures; local = settled.ensures.local; later = settled.ensures.within.0; counted = settled.ensures.within.2 }) et em held ok near);
    }

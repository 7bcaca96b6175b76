use Rattle.std.proofs.Common.{rules, ℕ, ◌<◌, ◌≤◌, ◌||◌, refl, subst, ◌∙◌, arith, get_or, length-set}
use Rattle.search_tail.proofs.RunOut.{Running, running_most, running_ready, running_room}
use Rattle.states_walk.proofs.LastNumbers.{from, ran_start, ran_step, ran_numbers, ran_found}
use Rattle.states_walk.proofs.alone.ran_out.Goals.{In-loop-r}
use Rattle.states_walk.proofs.alone.ran_out.Goals as goal

-- ---- of the runner in the loop, for one program and prefix
abbrev Known : In-loop-r → Type 0
Known c = let a = c.args in let q = c.requires.0 in Running a.program.now.code a.program.now.lengths q.0 q.1 q.2 q.3 q.4 q.5 a.t (from a.r.failed c.loop-r.r)

known : (c : In-loop-r) → Known c
known c = let q = c.requires.0 in (c.loop-r.invariant.1 q.0 q.1 q.2 q.3 q.4 q.5 q.6 q.7).run

left : (c : In-loop-r) → c.loop-r.r.thread.at < get_or c.args.program.now.lengths c.args.t 0
left c = subst (λ (i : ℕ). c.loop-r.r.thread.at < get_or c.args.program.now.lengths i 0) c.wide.ensures.same c.loop-r-test.true

room : (c : In-loop-r) → c.loop-r.r.steps < 24
room c = let a = c.args in let q = c.requires.0 in running_room a.program.now.code a.program.now.lengths q.0 q.1 q.2 q.3 q.4 q.5 a.t (from a.r.failed c.loop-r.r) (known c) c.requires.1 (left c)

pub loop-r-init : goal.loop-r-init
loop-r-init c =
    let a = c.args in
    (search rules, λ class threads groups x p v at of. ran_start a.program.now.code a.program.now.lengths class threads groups x p v a.t a.r.failed a.r refl at of)

pub lean_step-m-requires : goal.lean_step-m-requires
lean_step-m-requires c =
    let a = c.args in
    let q = c.requires.0 in
    let here = (goal.at.lean_step-m-requires c).In-loop-r in
    running_ready a.program.now.code a.program.now.lengths q.0 q.1 q.2 q.3 q.4 q.5 a.t (from a.r.failed c.loop-r.r) (known here) c.requires.1 (left here)

pub bounds-r-r : goal.bounds-r-r
bounds-r-r c = room (goal.at.bounds-r-r c).In-loop-r

pub overflow_add-r : goal.overflow_add-r
overflow_add-r c = let h = room (goal.at.overflow_add-r c).In-loop-r in search rules

pub loop-r-smaller : goal.loop-r-smaller
loop-r-smaller c = omega (arith, room (goal.at.loop-r-smaller c).In-loop-r)

pub loop-r-preserved : goal.loop-r-preserved
loop-r-preserved c =
    let a = c.args in
    let now = c.loop-r in
    let step = c.lean_step-m in (
      length-set now.r.schedule now.r.steps a.t ∙ now.invariant.0,
      λ class threads groups x p v at of.
          ran_step a.program.now.code a.program.now.lengths class threads groups x p v a.t a.r.failed now.r (now.invariant.1 class threads groups x p v at of) c.requires.1
          (left (goal.at.loop-r-preserved c).In-loop-r) now.invariant.0 step.result step.ensures (now.r.failed || step.result.thread.failed) refl,
    )

pub returns-clause-within : goal.returns-clause-within
returns-clause-within c =
    let a = c.args in
    let q = c.requires.0 in
    running_most a.program.now.code a.program.now.lengths q.0 q.1 q.2 q.3 q.4 q.5 a.t (from a.r.failed c.loop-r.r) (c.loop-r.invariant.1 q.0 q.1 q.2 q.3 q.4 q.5 q.6 q.7).run

pub returns-clause-last : goal.returns-clause-last
returns-clause-last c class threads groups x p v at of s =
    let a = c.args in
    let now = c.loop-r in
    let over = subst (λ (i : ℕ). get_or a.program.now.lengths i 0 ≤ now.r.thread.at) c.wide.ensures.same c.loop-r-test.false in
    let ran = now.invariant.1 class threads groups x p v at of in (
      ran_numbers a.program.now.code a.program.now.lengths class threads groups x p v a.t a.r.failed now.r ran c.requires.1 over s,
      ran_found a.program.now.code a.program.now.lengths class threads groups x p v a.t a.r.failed now.r ran c.requires.1 over s,
    )

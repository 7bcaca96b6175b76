use Rattle.std.proofs.Common.{rules, ℕ, ◌<◌, ◌-◌, ◌+◌, ◌^◌, ◌≡◌, refl, sym, ap, subst, ◌∙◌, cond, List, arith, ltb, length, get_or, set}
use Rattle.machine_access.specs.declared.thread.ThreadState.{ThreadState}
use Rattle.spec_sc.specs.Graph.{end_of}
use Rattle.spec_sc.proofs.Steps.{enabled_small}
use Rattle.machine.specs.Held.{idle, ReadyThread}
use Rattle.theory_sc.specs.ReadWords.{word_behind}
use Rattle.search_place.specs.declared.place.Place.{Place}
use Rattle.search_place.proofs.LateLoop.{late_below_none, late_below_more, late_below_all}
use Rattle.search_place.proofs.ReachedStep.{Short, reached_ready, reached_room, reached_bit, moved_by, next_short, reached_next, enabled_again, enabled_left}
use Rattle.search_place.proofs.stepping.step.Invariants.{did}
use Rattle.search_place.proofs.stepping.step.Goals.{Start}
use Rattle.search_place.proofs.stepping.step.Goals as goal

-- ---- of the place where the step is taken
six : (c : Start) → c.args.t < 6
six c = enabled_small (end_of c.requires.3 c.requires.4) c.args.t c.requires.6

room : (c : Start) → c.args.x.now.steps < 24
room c = let a = c.args in let q = c.requires in reached_room a.program.now.code a.program.now.lengths q.0 q.1 q.2 a.x.now q.3 q.4 q.5 a.t q.6

pub bounds-x-u : goal.bounds-x-u
bounds-x-u c = omega (arith, six (goal.at.bounds-x-u c).Start, c.wide-u.ensures.same)

pub lean_step-m-requires : goal.lean_step-m-requires
lean_step-m-requires c =
    let a = c.args in
    let q = c.requires in
    subst (λ (i : ℕ). ReadyThread a.program.now.lengths (get_or a.x.now.threads i idle) a.t) (sym c.wide-u.ensures.same)
    (reached_ready a.program.now.code a.program.now.lengths q.0 q.1 q.2 a.x.now q.3 q.4 q.5 a.t q.6)

pub bounds-x-u-2 : goal.bounds-x-u-2
bounds-x-u-2 c = omega (arith, six (goal.at.bounds-x-u-2 c).Start, c.wide-u.ensures.same)

pub bounds-x-n : goal.bounds-x-n
bounds-x-n c = room (goal.at.bounds-x-n c).Start

pub mark_location-stamp-requires : goal.mark_location-stamp-requires
mark_location-stamp-requires c = room (goal.at.mark_location-stamp-requires c).Start

pub mark_thread-requires : goal.mark_thread-requires
mark_thread-requires c = six (goal.at.mark_thread-requires c).Start

pub late_bound-w-end-requires : goal.late_bound-w-end-requires
late_bound-w-end-requires c = six (goal.at.late_bound-w-end-requires c).Start

-- ---- the late ones
pub loop-w-init : goal.loop-w-init
loop-w-init c =
    let a = c.args in
    let q = c.requires in
    let step = c.lean_step-m in
    let moved = moved_by a.program.now.code a.program.now.lengths q.0 q.1 q.2 a.x.now q.3 q.4 q.5 a.t q.6 c.wide-u.result c.wide-u.ensures.same step.result step.ensures in
    let short = next_short a.program.now.code a.program.now.lengths q.0 q.1 q.2 a.x.now q.3 q.4 q.5 a.t q.6 step.result moved in (
      omega arith,
      c.late_bound-w-end.ensures.0,
      subst (λ (i : ℕ). Short a.program.now.lengths (set a.x.now.threads i step.result.thread)) (sym c.wide-u.ensures.same) short,
      late_below_none a.program.now.code a.program.now.lengths (set a.x.now.threads c.wide-u.result step.result.thread) step.result.memory a.x.now.late (did a.t step.result),
    )

pub loop-w-preserved : goal.loop-w-preserved
loop-w-preserved c =
    let a = c.args in
    let step = c.lean_step-m in
    let loop = c.loop-w in (
      omega (arith, c.loop-w-test.true),
      loop.invariant.1,
      loop.invariant.2,
      late_below_more a.program.now.code a.program.now.lengths (set a.x.now.threads c.wide-u.result step.result.thread) step.result.memory a.x.now.late (did a.t step.result) loop.late loop.w
          c.late_bit-late.result c.wide.result loop.invariant.3 c.wide.ensures.same c.late_bit-late.ensures,
    )

pub bounds-program-u : goal.bounds-program-u
bounds-program-u c = omega (arith, six (goal.at.bounds-program-u c).Start, c.wide-u.ensures.same)

pub live_behind-x-requires : goal.live_behind-x-requires
live_behind-x-requires c =
    let a = c.args in
    let q = c.requires in
    (six (goal.at.live_behind-x-requires c).Start, reached_bit a.program.now.code a.program.now.lengths q.0 q.1 q.2 a.x.now q.3 q.4 q.5 a.t q.6)

-- ---- the place behind the step
pub returns : goal.returns
returns c class count groups p v at =
    let a = c.args in
    let q = c.requires in
    let wide = c.wide-u in
    let step = c.lean_step-m in
    let loop = c.loop-w in
    let bound = c.late_bound-w-end in
    let threads : List ThreadState = set a.x.now.threads wide.result step.result.thread in
    let next : Place = record {
      threads = threads;
      memory = step.result.memory;
      words = c.mark_thread.new.words;
      schedule = set a.x.now.schedule a.x.now.steps a.t;
      stamps = c.mark_location-stamp.new.stamps;
      steps = a.x.now.steps + 1;
      late = loop.late;
      live = c.live_behind-x.result;
    } in
    let whole : length a.x.now.schedule ≡ 24 = search rules in
    let left = enabled_left a.program.now.code a.program.now.lengths q.0 q.1 q.2 a.x.now q.3 q.4 q.5 a.t q.6 in
    let may = enabled_again a.program.now.code a.program.now.lengths class count groups a.x.now p v at a.t (six (goal.at.returns c).Start) left in
    let moved = moved_by a.program.now.code a.program.now.lengths class count groups a.x.now p v at a.t may wide.result wide.ensures.same step.result step.ensures in (
      reached_next a.program.now.code a.program.now.lengths class count groups a.x.now p v at a.t may step.result moved next whole (record {
        threads = ap (λ (i : ℕ). set a.x.now.threads i step.result.thread) wide.ensures.same;
        memory = refl;
        schedule = refl;
        steps = refl;
        late = λ m σ et em held.
            late_below_all a.program.now.code a.program.now.lengths threads step.result.memory a.x.now.late (did a.t step.result) loop.late loop.w bound.result loop.invariant.3
            c.loop-w-test.false (omega (arith, loop.invariant.0, loop.invariant.1)) (λ τ u h l. bound.ensures.1 τ (did a.t step.result) u refl h l)
            m σ (et ∙ ap (λ (i : ℕ). set a.x.now.threads i step.result.thread) (sym wide.ensures.same)) em held;
        live = c.live_behind-x.ensures ∙ ap (λ (i : ℕ). cond (ltb step.result.thread.at (get_or a.program.now.lengths i 0)) a.x.now.live (a.x.now.live - 2 ^ a.t)) wide.ensures.same;
        stamps = c.mark_location-stamp.ensures.new;
        words = c.mark_thread.ensures ∙ ap (λ (i : ℕ). set a.x.now.words a.t (word_behind a.t (get_or a.x.now.words a.t 0) i step.result.wrote)) c.mark_location-stamp.ensures.old;
      }),
      moved.location,
    )

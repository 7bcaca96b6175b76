-- `advanced` stores the step's change in a copy of the place.
use Rattle.std.proofs.Common.{rules, ◌≡◌, refl, subst, ◌∙◌, not, ◌&&◌, leb, length}
use Rattle.spec_tso.specs.State.{access, move, byte_for, step}
use Rattle.spec_tso.specs.Graph.{end_of}
use Rattle.tso_machine.specs.Steps.{behind}
use Rattle.tso_machine.proofs.CodeSteps.{step_six, step_ready}
use Rattle.theory_tso.specs.declared.deed.Deed.{Deed}
use Rattle.tso_order.specs.Freed.{HoldsSets}
use Rattle.tso_order.proofs.HeldDeeds.{ends, short_at}
use Rattle.tso_order.proofs.Choices.{bit_anew}
use Rattle.tso_place.specs.Reached.{machine_of}
use Rattle.tso_place.proofs.ReachedStep.{did, moves_is, step_may, step_room, step_place, next_short, next_access, next_move, late_may, overdue_may, far_may, reached_next}
use Rattle.tso_place.proofs.going.advanced.Goals as goal

pub bounds-y-u : goal.bounds-y-u
bounds-y-u c =
    let a = c.args in
    let q = c.requires in
    let m = step_may a.program.now.code a.program.now.lengths a.program.now.class q.0 q.1 a.x q.2 q.3 q.4 a.b q.5 in
    step_six m c.thread_of-t.ensures c.wide-u.ensures.same

pub bounds-y-u-2 : goal.bounds-y-u-2
bounds-y-u-2 c =
    let a = c.args in
    let q = c.requires in
    let m = step_may a.program.now.code a.program.now.lengths a.program.now.class q.0 q.1 a.x q.2 q.3 q.4 a.b q.5 in
    step_six m c.thread_of-t.ensures c.wide-u.ensures.same

pub bounds-y-u-3 : goal.bounds-y-u-3
bounds-y-u-3 c =
    let a = c.args in
    let q = c.requires in
    let m = step_may a.program.now.code a.program.now.lengths a.program.now.class q.0 q.1 a.x q.2 q.3 q.4 a.b q.5 in
    step_six m c.thread_of-t.ensures c.wide-u.ensures.same

pub lean_step-c-requires : goal.lean_step-c-requires
lean_step-c-requires c =
    let a = c.args in
    let q = c.requires in
    let m = step_may a.program.now.code a.program.now.lengths a.program.now.class q.0 q.1 a.x q.2 q.3 q.4 a.b q.5 in
    step_ready m c.thread_of-t.ensures c.wide-u.ensures.same

pub bounds-y-u-4 : goal.bounds-y-u-4
bounds-y-u-4 c =
    let a = c.args in
    let q = c.requires in
    let m = step_may a.program.now.code a.program.now.lengths a.program.now.class q.0 q.1 a.x q.2 q.3 q.4 a.b q.5 in
    step_six m c.thread_of-t.ensures c.wide-u.ensures.same

pub bounds-y-u-5 : goal.bounds-y-u-5
bounds-y-u-5 c =
    let a = c.args in
    let q = c.requires in
    let m = step_may a.program.now.code a.program.now.lengths a.program.now.class q.0 q.1 a.x q.2 q.3 q.4 a.b q.5 in
    step_six m c.thread_of-t.ensures c.wide-u.ensures.same

pub bounds-y-u-6 : goal.bounds-y-u-6
bounds-y-u-6 c =
    let a = c.args in
    let q = c.requires in
    let m = step_may a.program.now.code a.program.now.lengths a.program.now.class q.0 q.1 a.x q.2 q.3 q.4 a.b q.5 in
    step_six m c.thread_of-t.ensures c.wide-u.ensures.same

pub may_access-on-requires : goal.may_access-on-requires
may_access-on-requires c =
    let a = c.args in
    let q = c.requires in
    let H = c.lean_step-c.ensures.step (machine_of a.x) (end_of q.2 q.3) c.wide-u.result (c.wide-u.ensures.same ∙ c.thread_of-t.ensures) q.4.holds refl q.5 (step_place a.program.now.code a.program.now.lengths a.program.now.class q.0 q.1 a.x q.2 q.3 q.4 a.b q.5) in
    next_short a.program.now.code a.program.now.lengths a.program.now.class q.0 q.1 a.x q.2 q.3 q.4 a.b q.5 c.lean_step-c.result c.wide-u.result c.thread_of-t.result c.wide-u.ensures.same c.thread_of-t.ensures H

pub freed-y-requires : goal.freed-y-requires
unfolding byte_for
freed-y-requires c =
    let a = c.args in
    let q = c.requires in
    let H = c.lean_step-c.ensures.step (machine_of a.x) (end_of q.2 q.3) c.wide-u.result (c.wide-u.ensures.same ∙ c.thread_of-t.ensures) q.4.holds refl q.5 (step_place a.program.now.code a.program.now.lengths a.program.now.class q.0 q.1 a.x q.2 q.3 q.4 a.b q.5) in
    let s = c.candidates-s in
    let lv = s.ensures.0 ∙ bit_anew (end_of q.2 q.3) a.b access a.x.sets.live c.may_access-on.result c.thread_of-t.result c.thread_of-t.ensures q.4.sets.live (next_access a.program.now.code a.program.now.lengths a.program.now.class q.0 q.1 a.x q.2 q.3 q.4 a.b q.5 c.lean_step-c.result c.wide-u.result c.thread_of-t.result c.wide-u.ensures.same c.thread_of-t.ensures H c.may_access-on.result c.may_access-on.ensures) in
    let mo = s.ensures.1 ∙ bit_anew (end_of q.2 q.3) a.b move a.x.sets.moving _ c.thread_of-t.result c.thread_of-t.ensures q.4.sets.moving (next_move a.program.now.code a.program.now.lengths a.program.now.class q.0 q.1 a.x q.2 q.3 q.4 a.b q.5 c.lean_step-c.result c.wide-u.result c.thread_of-t.result c.wide-u.ensures.same c.thread_of-t.ensures H) in
    (λ u h e. short_at a.program.now.code a.program.now.lengths (behind (machine_of a.x) c.wide-u.result c.lean_step-c.result).machine (step (end_of q.2 q.3) a.b) H.holds u h (late_may a.program.now.code a.program.now.lengths a.program.now.class q.0 q.1 a.x q.2 q.3 q.4 a.b q.5 s.result.live s.result.late lv s.ensures.2 u h e), ends a.program.now.code a.program.now.lengths (behind (machine_of a.x) c.wide-u.result c.lean_step-c.result).machine (step (end_of q.2 q.3) a.b) H.holds)

pub bounds-y-n : goal.bounds-y-n
bounds-y-n c =
    let a = c.args in
    let q = c.requires in
    let h = step_room a.program.now.code a.program.now.lengths a.program.now.class q.0 q.1 a.x q.2 q.3 q.4 a.b q.5 in
    search rules

pub overflow_add-y : goal.overflow_add-y
overflow_add-y c =
    let a = c.args in
    let q = c.requires in
    let h = step_room a.program.now.code a.program.now.lengths a.program.now.class q.0 q.1 a.x q.2 q.3 q.4 a.b q.5 in
    search rules

pub offset_bounds-y-u-3 : goal.offset_bounds-y-u-3
offset_bounds-y-u-3 c =
    let a = c.args in
    let q = c.requires in
    let m = step_may a.program.now.code a.program.now.lengths a.program.now.class q.0 q.1 a.x q.2 q.3 q.4 a.b q.5 in
    let h = step_six m c.thread_of-t.ensures c.wide-u.ensures.same in
    search rules

pub bounds-y-u-7 : goal.bounds-y-u-7
bounds-y-u-7 c =
    let a = c.args in
    let q = c.requires in
    let m = step_may a.program.now.code a.program.now.lengths a.program.now.class q.0 q.1 a.x q.2 q.3 q.4 a.b q.5 in
    step_six m c.thread_of-t.ensures c.wide-u.ensures.same

pub word_behind-requires : goal.word_behind-requires
word_behind-requires c = c.digit-d.ensures.1

pub offset_bounds-y-u-4 : goal.offset_bounds-y-u-4
offset_bounds-y-u-4 c =
    let a = c.args in
    let q = c.requires in
    let m = step_may a.program.now.code a.program.now.lengths a.program.now.class q.0 q.1 a.x q.2 q.3 q.4 a.b q.5 in
    let h = step_six m c.thread_of-t.ensures c.wide-u.ensures.same in
    search rules

pub bounds-y-u-8 : goal.bounds-y-u-8
bounds-y-u-8 c =
    let a = c.args in
    let q = c.requires in
    let m = step_may a.program.now.code a.program.now.lengths a.program.now.class q.0 q.1 a.x q.2 q.3 q.4 a.b q.5 in
    step_six m c.thread_of-t.ensures c.wide-u.ensures.same

pub returns : goal.returns
unfolding byte_for
returns c =
    let good = c.well_formed.1.0 in
    let size : length c.args.x.schedule ≡ 32 = search rules in
    let six : length c.args.x.words ≡ 6 = search rules in
    let a = c.args in
    let s = c.candidates-s in
    let t = c.thread_of-t in
    λ threads groups p v at ok.
    let n = behind (machine_of a.x) c.wide-u.result c.lean_step-c.result in
    let H = c.lean_step-c.ensures.step (machine_of a.x) (end_of p v) c.wide-u.result (c.wide-u.ensures.same ∙ c.thread_of-t.ensures) at.holds refl ok (step_place a.program.now.code a.program.now.lengths a.program.now.class threads groups a.x p v at a.b ok) in
    let E = c.deed_of-e.ensures ∙ did a.program.now.code a.program.now.lengths (end_of p v) a.b n H t.result (leb 16 a.b) (n.act.reads && not n.act.own) t.ensures (moves_is a.b) refl in
    let lv = s.ensures.0 ∙ bit_anew (end_of p v) a.b access a.x.sets.live c.may_access-on.result c.thread_of-t.result c.thread_of-t.ensures at.sets.live (next_access a.program.now.code a.program.now.lengths a.program.now.class threads groups a.x p v at a.b ok c.lean_step-c.result c.wide-u.result c.thread_of-t.result c.wide-u.ensures.same c.thread_of-t.ensures H c.may_access-on.result c.may_access-on.ensures) in
    let mo = s.ensures.1 ∙ bit_anew (end_of p v) a.b move a.x.sets.moving _ c.thread_of-t.result c.thread_of-t.ensures at.sets.moving (next_move a.program.now.code a.program.now.lengths a.program.now.class threads groups a.x p v at a.b ok c.lean_step-c.result c.wide-u.result c.thread_of-t.result c.wide-u.ensures.same c.thread_of-t.ensures H) in
    let fa = s.ensures.4 groups p at.lines in
    let S = c.freed-y.ensures a.program.now.lengths n.machine (step (end_of p v) a.b) H.holds refl refl refl refl refl (late_may a.program.now.code a.program.now.lengths a.program.now.class threads groups a.x p v at a.b ok s.result.live s.result.late lv s.ensures.2) (overdue_may a.program.now.code a.program.now.lengths a.program.now.class threads groups a.x p v at a.b ok s.result.moving s.result.overdue mo s.ensures.3) (far_may a.program.now.code a.program.now.lengths a.program.now.class threads groups a.x p v at a.b ok s.result.moving s.result.far mo fa) in
    reached_next a.program.now.code a.program.now.lengths a.program.now.class threads groups a.x p v at a.b ok n H _ t.result s.result size six t.ensures refl refl refl (rw (c.word_behind.ensures, c.digit-d.ensures.0, c.wide-u.ensures.same)) lv mo s.ensures.2 s.ensures.3 fa (subst (λ (d : Deed). HoldsSets (step (end_of p v) a.b) d s.result c.freed-y.result) E S)

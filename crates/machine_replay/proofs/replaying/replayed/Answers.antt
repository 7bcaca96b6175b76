use Rattle.std.proofs.Common.{◌≡◌, length, arith, refl, sym, subst, ◌∙◌}
use Rattle.machine.proofs.HeldAsking.{ended_by_lem, enabled_by_lem}
use Rattle.machine_replay.proofs.HeldReplay.{Progress, progress_start, replay_stops, replay_thread, replay_stored, replay_whole, replay_short}
use Rattle.machine_replay.proofs.replaying.replayed.Goals as goal

pub started-m-requires : goal.started-m-requires
started-m-requires c = (c.requires.0, c.requires.1)

pub loop-k-init : goal.loop-k-init
loop-k-init c =
    let args = c.args in
    λ p loaded e. progress_start args.program.now.code args.program.now.lengths p args.schedule.now c.started-m.result _ _ (c.started-m.ensures.1 p loaded (sym c.started-m.ensures.0 ∙ e)) refl refl

pub returns-then-not-enabled : goal.returns-then-not-enabled
returns-then-not-enabled c =
    let i = c.args in
    let j = c.loop-k in
    λ p loaded e.
    let done = j.invariant p loaded (c.started-m.ensures.0 ∙ e) in
    rw (c.ended_here.ensures, c.refused.ensures)
    (replay_stops i.program.now.code i.program.now.lengths i.program.now.threads p loaded i.schedule.now j.m j.log j.made j.k done c.loop-k-test.true (sym (c.enabled.ensures ∙ enabled_by_lem done.holds _) ∙ c.if-not-enabled.true))

pub after_step-a-requires : goal.after_step-a-requires
after_step-a-requires c =
    let i = c.args in
    let j = c.loop-k in
    let pre = c.requires in
    let done = j.invariant pre.0 pre.1 (c.started-m.ensures.0 ∙ pre.2) in
    replay_thread i.program.now.code i.program.now.lengths i.program.now.threads pre.0 pre.1 i.schedule.now j.m j.log j.made j.k done c.loop-k-test.true
    (sym (c.enabled.ensures ∙ enabled_by_lem done.holds _) ∙ c.if-not-enabled.false) c.wide-u.result c.wide-u.ensures.same

pub loop-k-preserved : goal.loop-k-preserved
loop-k-preserved c =
    let i = c.args in
    let j = c.loop-k in
    λ p loaded e.
    let done = j.invariant p loaded e in
    replay_stored i.program.now.code i.program.now.lengths i.program.now.threads p loaded i.schedule.now j.m j.log j.made j.k done c.loop-k-test.true
    (sym (c.enabled.ensures ∙ enabled_by_lem done.holds _) ∙ c.if-not-enabled.false) c.wide-u.result c.wide-u.ensures.same
    c.after_step-a.result _ c.with_at-longer.result c.with_at-longer.ensures c.after_step-a.ensures.step c.last_behind.result c.last_behind.ensures
    (rw c.note_of-note.ensures at c.put_note.ensures)

pub returns-then-ended_all : goal.returns-then-ended_all
returns-then-ended_all c =
    let i = c.args in
    let j = c.loop-k in
    λ p loaded e.
    let done = subst (Progress i.program.now.code i.program.now.lengths p i.schedule.now j.m j.log j.made) (let z : j.k ≡ length i.schedule.now = omega arith in z) (j.invariant p loaded (c.started-m.ensures.0 ∙ e)) in
    rw c.ended_here-then-ended_all.ensures
    (replay_whole i.program.now.code i.program.now.lengths i.program.now.threads p loaded i.schedule.now j.m j.log j.made _ done (omega arith) (sym (c.ended_all.ensures ∙ ended_by_lem done.holds) ∙ c.if-ended_all.true))

pub returns : goal.returns
returns c =
    let i = c.args in
    let j = c.loop-k in
    λ p loaded e.
    let done = subst (Progress i.program.now.code i.program.now.lengths p i.schedule.now j.m j.log j.made) (let z : j.k ≡ length i.schedule.now = omega arith in z) (j.invariant p loaded (c.started-m.ensures.0 ∙ e)) in
    rw (c.ended_here-2.ensures, c.refused-2.ensures)
    (replay_short i.program.now.code i.program.now.lengths i.program.now.threads p loaded i.schedule.now j.m j.log j.made _ done (omega arith) (sym (c.ended_all.ensures ∙ ended_by_lem done.holds) ∙ c.if-ended_all.false))

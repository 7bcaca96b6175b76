use Rattle.std.proofs.Common.{arith, refl, sym, ◌∙◌}
use Rattle.tso_replay.proofs.HeldReplay.{progress_start, notes_room, replay_stops, replay_room, replay_more, replay_whole, replay_short}
use Rattle.tso_replay.proofs.replaying.replayed.Goals as goal

pub loop-b-init : goal.loop-b-init
loop-b-init c = (refl, λ p loaded few held. progress_start c.args.program.now.code c.args.program.now.lengths p c.args.schedule.now c.started.result _ _ held refl refl)

pub returns-then-not-enabled : goal.returns-then-not-enabled
returns-then-not-enabled c =
    let i = c.args in
    let j = c.loop-b in
    λ p loaded e few.
    let done = j.invariant.1 p loaded few (c.started.ensures p loaded e few) in
    replay_stops i.program.now.code i.program.now.lengths i.program.now.threads p loaded few i.schedule.now j.run done j.b-index j.invariant.0 c.loop-b-test.true
    (sym (c.enabled.ensures _ done.holds) ∙ c.if-not-enabled.true)

pub bounds-run-run : goal.bounds-run-run
bounds-run-run c =
    let i = c.args in
    let pre = c.requires in
    let done = c.loop-b.invariant.1 pre.0 pre.1 pre.3 (c.started.ensures pre.0 pre.1 pre.2 pre.3) in
    replay_room i.program.now.code i.program.now.lengths i.program.now.threads pre.0 pre.1 pre.3 i.schedule.now c.loop-b.run done c.loop-b.b-index c.loop-b.invariant.0 c.loop-b-test.true
    (sym (c.enabled.ensures _ done.holds) ∙ c.if-not-enabled.false)

pub note_step-requires : goal.note_step-requires
note_step-requires c =
    let i = c.args in
    let pre = c.requires in
    notes_room i.program.now.code i.program.now.lengths i.program.now.threads pre.0 pre.1 pre.3 i.schedule.now c.loop-b.run (c.loop-b.invariant.1 pre.0 pre.1 pre.3 (c.started.ensures pre.0 pre.1 pre.2 pre.3))

pub loop-b-preserved : goal.loop-b-preserved
loop-b-preserved c =
    let i = c.args in
    let j = c.loop-b in (
      omega (arith, j.invariant.0),
      λ p loaded few held.
          let done = j.invariant.1 p loaded few held in
          replay_more i.program.now.code i.program.now.lengths i.program.now.threads p loaded few i.schedule.now j.run done j.b-index j.invariant.0 c.loop-b-test.true
          (sym (c.enabled.ensures _ done.holds) ∙ c.if-not-enabled.false) c.step-r.result c.step-r.ensures _ c.note_step.result c.note_step.ensures.count c.note_step.ensures.log,
    )

pub returns-then-not-ended_all : goal.returns-then-not-ended_all
returns-then-not-ended_all c =
    let i = c.args in
    let j = c.loop-b in
    λ p loaded e few.
    let done = j.invariant.1 p loaded few (c.started.ensures p loaded e few) in
    replay_short i.program.now.code i.program.now.lengths i.program.now.threads p loaded few i.schedule.now j.run done (omega (arith, j.invariant.0, c.loop-b-test.false))
    (sym (c.ended_all.ensures i.program.now.code _ done.holds) ∙ c.if-not-ended_all.true)

pub returns-else-not-ended_all : goal.returns-else-not-ended_all
returns-else-not-ended_all c =
    let i = c.args in
    let j = c.loop-b in
    λ p loaded e few.
    let done = j.invariant.1 p loaded few (c.started.ensures p loaded e few) in
    replay_whole i.program.now.code i.program.now.lengths i.program.now.threads p loaded few i.schedule.now j.run done (omega (arith, j.invariant.0, c.loop-b-test.false))
    (sym (c.ended_all.ensures i.program.now.code _ done.holds) ∙ c.if-not-ended_all.false)

use Rattle.std.proofs.Common.{refl, sym, ap, ◌∙◌, true≢false, [], ◌∷◌, ◌++◌, arith}
use Rattle.machine.proofs.HeldAsking.{fails_by_lem}
use Rattle.spec_schedules.specs.Lists.{head_of}
use Rattle.search_place.proofs.ReachedStep.{reached_ended, reached_going}
use Rattle.search_walk.proofs.TriedSteps.{tried_enabled}
use Rattle.search_walk.proofs.WalkLoop.{none_sleeps}
use Rattle.states_walk.proofs.Numbered.{reached_less}
use Rattle.states_walk.proofs.FirstFound.{head_if, asleep_first, awake_first, one_more}
use Rattle.states_walk.proofs.SoughtTurns.{sought_start, sought_found, sought_none, sought_passed, sought_over}
use Rattle.states_walk.proofs.seeking_plainly.+plain_among_plain_with.Goals.{plain_among-then-is_tried+in_default, plain_among-else-is_tried}
use Rattle.states_walk.proofs.seeking_plainly.+plain_among_plain_with.Goals as goal

-- ---- plain_among
pub plain_among-loop-t-init : goal.plain_among-loop-t-init
plain_among-loop-t-init t c =
    let a = c.args in
    sought_start a.program.now.code a.program.now.lengths a.program.now.class a.x.now (λ count groups p v at. reached_going a.program.now.code a.program.now.lengths a.program.now.class count groups a.x.now p v at c.requires.2)

pub plain_among-plain_with-requires : goal.plain_among-plain_with-requires
plain_among-plain_with-requires t c =
    let a = c.args in (
      omega (arith, c.decreases),
      (c.requires.0, c.requires.1, λ count groups p v at. sym (c.is_tried.ensures a.program.now.code a.program.now.lengths count groups a.x.now p v at refl refl refl) ∙ c.if-is_tried.true),
    )

-- found with t
pub plain_among-returns-in-Some-clause-first : goal.plain_among-returns-in-Some-clause-first
plain_among-returns-in-Some-clause-first t c count groups p v at =
    let a = c.args in
    sought_found a.program.now.code a.program.now.lengths a.program.now.class a.x.now c.loop-t.t c.loop-t-test.true c.loop-t.invariant c.in-Some.found c.in-Some.ensures.first (count, groups, p, v, at)

-- none with a step that is tried, and none with one that is not
pub plain_among-loop-t-preserved : goal.plain_among-loop-t-preserved
plain_among-loop-t-preserved t c =
    let a = c.args in
    let loop = c.loop-t in
    let in-loop = c.loop-t-test.true in
    elim c.if-is_tried.branch [
      | plain_among-then-is_tried+in_default w ↦ sought_none a.program.now.code a.program.now.lengths a.program.now.class a.x.now loop.t in-loop loop.invariant w.in_default.ensures.first
      | plain_among-else-is_tried w ↦ sought_passed a.program.now.code a.program.now.lengths a.program.now.class a.x.now loop.t in-loop loop.invariant
          (λ count groups p v at. sym (c.is_tried.ensures a.program.now.code a.program.now.lengths count groups a.x.now p v at refl refl refl) ∙ w.if-is_tried.false)
    ]

pub plain_among-returns-clause-first : goal.plain_among-returns-clause-first
plain_among-returns-clause-first t c count groups p v at =
    let a = c.args in
    sought_over a.program.now.code a.program.now.lengths a.program.now.class a.x.now c.loop-t.t c.loop-t-test.false c.loop-t.invariant (count, groups, p, v, at)

-- ---- plain_with
pub plain_with-step-requires : goal.plain_with-step-requires
plain_with-step-requires t c = let q = c.requires.0 in (c.args.program.now.class, q.0, q.1, q.2, q.3, q.4, tried_enabled q.2 q.3 c.args.t (c.requires.2 q.0 q.1 q.2 q.3 q.4))

pub plain_with-some_asleep-requires : goal.plain_with-some_asleep-requires
plain_with-some_asleep-requires t c =
    let a = c.args in
    let q = c.requires.0 in
    (a.program.now.class, q.0, q.1, c.step.new.x, q.2, q.3 ++ (a.t ∷ []), (c.step.ensures a.program.now.class q.0 q.1 q.2 q.3 q.4).0, refl, refl, c.requires.1)

pub plain_with-returns-then-some_asleep-clause-first : goal.plain_with-returns-then-some_asleep-clause-first
plain_with-returns-then-some_asleep-clause-first t c count groups p v at =
    let a = c.args in
    let next = (c.step.ensures a.program.now.class count groups p v at).0 in
    asleep_first p a.x.now.steps v a.t (c.requires.2 count groups p v at)
    (sym (c.some_asleep.ensures a.program.now.class count groups c.step.new.x p (v ++ (a.t ∷ [])) next refl refl) ∙ c.if-some_asleep.true) _ refl

-- one thread is left
pub plain_with-ran_out-end-requires : goal.plain_with-ran_out-end-requires
plain_with-ran_out-end-requires t c =
    let a = c.args in
    let q = c.requires.0 in
    ((a.program.now.class, q.0, q.1, c.step.new.x, q.2, q.3 ++ (a.t ∷ []), (c.step.ensures a.program.now.class q.0 q.1 q.2 q.3 q.4).0, c.of-r.ensures.held), c.in-Some.ensures.within)

pub plain_with-returns-in-Some-clause-first : goal.plain_with-returns-in-Some-clause-first
plain_with-returns-in-Some-clause-first t c count groups p v at =
    let a = c.args in
    let y = c.step.new.x in
    let is = c.requires.2 count groups p v at in
    let next = (c.step.ensures a.program.now.class count groups p v at).0 in
    let awake = sym (c.some_asleep.ensures a.program.now.class count groups y p (v ++ (a.t ∷ [])) next refl refl) ∙ c.if-some_asleep.false in
    let settled = c.in-Some.ensures.settled a.program.now.code a.program.now.lengths a.program.now.class count groups y p (v ++ (a.t ∷ [])) next refl (none_sleeps p (v ++ (a.t ∷ [])) awake) in
    let ran = (c.ran_out-end.ensures.last a.program.now.class count groups y p (v ++ (a.t ∷ [])) next c.of-r.ensures.held settled).1
    (c.of-r.ensures.failed ∙ c.some_failed.ensures ∙ fails_by_lem next.holds) in
    c.steps_if.ensures.found ∙ head_if c.ran_out-end.result.failed _
    ∙ ap head_of (sym ran ∙ awake_first p a.x.now.steps v a.t is awake y.steps (one_more a.program.now.code a.program.now.lengths a.program.now.class count groups a.x.now y p v a.t at next))

pub plain_with-returns-clause-first : goal.plain_with-returns-clause-first
plain_with-returns-clause-first t c count groups p v at =
    let a = c.args in
    let y = c.step.new.x in
    let next = (c.step.ensures a.program.now.class count groups p v at).0 in
    let awake = sym (c.some_asleep.ensures a.program.now.class count groups y p (v ++ (a.t ∷ [])) next refl refl) ∙ c.if-some_asleep.false in
    c.plain_among.ensures.first count groups p (v ++ (a.t ∷ [])) next
    ∙ ap head_of (awake_first p a.x.now.steps v a.t (c.requires.2 count groups p v at) awake y.steps (one_more a.program.now.code a.program.now.lengths a.program.now.class count groups a.x.now y p v a.t at next))

pub plain_with-plain_among-requires : goal.plain_with-plain_among-requires
plain_with-plain_among-requires t c =
    let a = c.args in
    let q = c.requires.0 in
    let y = c.step.new.x in
    let next = (c.step.ensures a.program.now.class q.0 q.1 q.2 q.3 q.4).0 in
    let going = c.in_default.ensures.settled a.program.now.code a.program.now.lengths a.program.now.class q.0 q.1 y q.2 (q.3 ++ (a.t ∷ [])) next refl in
    let less = reached_less q.2 q.3 a.t a.program.now.code a.program.now.lengths a.program.now.class q.0 q.1 y next (tried_enabled q.2 q.3 a.t (c.requires.2 q.0 q.1 q.2 q.3 q.4)) a.x.now q.4 in (
      omega (arith, c.decreases, less),
      (
        (q.0, q.1, q.2, q.3 ++ (a.t ∷ []), next),
        c.requires.1,
        λ z. true≢false (sym (reached_ended a.program.now.code a.program.now.lengths a.program.now.class q.0 q.1 y q.2 (q.3 ++ (a.t ∷ [])) next z) ∙ going),
      ),
    )

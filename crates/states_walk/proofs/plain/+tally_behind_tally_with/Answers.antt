use Rattle.std.proofs.Common.{refl, sym, ap, ◌∙◌, true≢false, [], ◌∷◌, ◌++◌, arith}
use Rattle.spec_sc.specs.Graph.{end_of}
use Rattle.spec_sc.proofs.Steps.{enabled_small}
use Rattle.search_place.proofs.ReachedStep.{reached_ended, reached_going}
use Rattle.search_walk.proofs.TriedSteps.{tried_enabled}
use Rattle.search_walk.proofs.WalkLoop.{none_sleeps}
use Rattle.states_memory.specs.declared.tally.Tally.{Tally}
use Rattle.states_walk.proofs.Numbered.{asleep_none, awake_charged, awake_numbers, reached_failed, reached_less}
use Rattle.states_walk.proofs.Turns.{left_start, left_tried, left_skipped, left_none}
use Rattle.states_walk.proofs.plain.+tally_behind_tally_with.Goals.{tally_behind-then-is_tried, tally_behind-else-is_tried}
use Rattle.states_walk.proofs.plain.+tally_behind_tally_with.Goals as goal

-- ---- tally_behind
pub tally_behind-loop-t-init : goal.tally_behind-loop-t-init
tally_behind-loop-t-init t c =
    let a = c.args in (
      omega arith,
      omega arith,
      left_start a.program.now.code a.program.now.lengths a.program.now.class a.x.now (λ count groups p v at. reached_going a.program.now.code a.program.now.lengths a.program.now.class count groups a.x.now p v at c.requires.2) 0 0 refl refl,
    )

pub tally_behind-tally_with-requires : goal.tally_behind-tally_with-requires
tally_behind-tally_with-requires t c =
    let a = c.args in (
      omega (arith, c.decreases),
      (c.requires.0, c.requires.1, λ count groups p v at. sym (c.is_tried.ensures a.program.now.code a.program.now.lengths count groups a.x.now p v at refl refl refl) ∙ c.if-is_tried.true),
    )

-- with a step that is tried, and with one that is not
pub tally_behind-loop-t-preserved : goal.tally_behind-loop-t-preserved
tally_behind-loop-t-preserved t c =
    let a = c.args in
    let loop = c.loop-t in
    let in-loop = c.loop-t-test.true in
    elim c.if-is_tried.branch [
      | tally_behind-then-is_tried w ↦ let el = ap (λ (s : Tally). s.listed) w.sum-is ∙ w.added-sum.ensures.0 in
          let ef = ap (λ (s : Tally). s.failing) w.sum-is ∙ w.added-sum.ensures.1 in (
            omega (arith, el),
            omega (arith, ef),
            left_tried a.program.now.code a.program.now.lengths a.program.now.class a.x.now loop.sum.listed loop.sum.failing _ _ c.if-is_tried.sum.listed c.if-is_tried.sum.failing loop.t in-loop loop.invariant.2 w.tally_with.ensures el ef,
          )
      | tally_behind-else-is_tried w ↦ let el = ap (λ (s : Tally). s.listed) w.sum-is in
          let ef = ap (λ (s : Tally). s.failing) w.sum-is in (
            omega (arith, el, loop.invariant.0),
            omega (arith, ef, loop.invariant.1),
            left_skipped a.program.now.code a.program.now.lengths a.program.now.class a.x.now loop.sum.listed loop.sum.failing c.if-is_tried.sum.listed c.if-is_tried.sum.failing loop.t in-loop loop.invariant.2
                (λ count groups p v at. sym (c.is_tried.ensures a.program.now.code a.program.now.lengths count groups a.x.now p v at refl refl refl) ∙ w.if-is_tried.false) el ef,
          )
    ]

pub tally_behind-returns : goal.tally_behind-returns
tally_behind-returns t c count groups p v at =
    let a = c.args in
    let loop = c.loop-t in
    left_none a.program.now.code a.program.now.lengths a.program.now.class a.x.now loop.sum.listed loop.sum.failing loop.t c.loop-t-test.false loop.invariant.0 loop.invariant.1 loop.invariant.2 (count, groups, p, v, at)

-- ---- tally_with
pub tally_with-step-requires : goal.tally_with-step-requires
tally_with-step-requires t c = let q = c.requires.0 in (c.args.program.now.class, q.0, q.1, q.2, q.3, q.4, tried_enabled q.2 q.3 c.args.t (c.requires.2 q.0 q.1 q.2 q.3 q.4))

pub tally_with-some_asleep-requires : goal.tally_with-some_asleep-requires
tally_with-some_asleep-requires t c =
    let a = c.args in
    let q = c.requires.0 in
    (a.program.now.class, q.0, q.1, c.step.new.x, q.2, q.3 ++ (a.t ∷ []), (c.step.ensures a.program.now.class q.0 q.1 q.2 q.3 q.4).0, refl, refl, c.requires.1)

pub tally_with-returns-then-some_asleep : goal.tally_with-returns-then-some_asleep
tally_with-returns-then-some_asleep t c count groups p v at =
    let a = c.args in
    let next = (c.step.ensures a.program.now.class count groups p v at).0 in
    asleep_none p v a.t (c.requires.2 count groups p v at) (sym (c.some_asleep.ensures a.program.now.class count groups c.step.new.x p (v ++ (a.t ∷ [])) next refl refl) ∙ c.if-some_asleep.true)

pub tally_with-bounds-y-wide : goal.tally_with-bounds-y-wide
tally_with-bounds-y-wide t c =
    let q = c.requires.0 in
    omega (arith, enabled_small (end_of q.2 q.3) c.args.t (tried_enabled q.2 q.3 c.args.t (c.requires.2 q.0 q.1 q.2 q.3 q.4)), c.wide.ensures.same)

pub tally_with-ran_out-end-requires : goal.tally_with-ran_out-end-requires
tally_with-ran_out-end-requires t c =
    let a = c.args in
    let q = c.requires.0 in
    ((a.program.now.class, q.0, q.1, c.step.new.x, q.2, q.3 ++ (a.t ∷ []), (c.step.ensures a.program.now.class q.0 q.1 q.2 q.3 q.4).0, c.of.ensures.held), c.in-Some.ensures.within)

-- one thread is left
pub tally_with-returns-in-Some : goal.tally_with-returns-in-Some
tally_with-returns-in-Some t c count groups p v at =
    let a = c.args in
    let y = c.step.new.x in
    let is = c.requires.2 count groups p v at in
    let next = (c.step.ensures a.program.now.class count groups p v at).0 in
    let awake = sym (c.some_asleep.ensures a.program.now.class count groups y p (v ++ (a.t ∷ [])) next refl refl) ∙ c.if-some_asleep.false in
    let settled = c.in-Some.ensures.settled a.program.now.code a.program.now.lengths a.program.now.class count groups y p (v ++ (a.t ∷ [])) next refl (none_sleeps p (v ++ (a.t ∷ [])) awake) in
    let w = (c.ran_out-end.ensures.last a.program.now.class count groups y p (v ++ (a.t ∷ [])) next c.of.ensures.held settled).0 in
    awake_charged p v a.t is awake c.of.result.failed
    (c.of.ensures.failed ∙ reached_failed p v a.t a.program.now.code a.program.now.lengths a.program.now.class count groups y next (tried_enabled p v a.t is) c.wide.result c.wide.ensures.same)
    c.charged.result.listed c.charged.result.failing (c.charged.ensures.0 ∙ w.0, c.charged.ensures.1 ∙ w.1)

pub tally_with-tally_behind-requires : goal.tally_with-tally_behind-requires
tally_with-tally_behind-requires t c =
    let a = c.args in
    let q = c.requires.0 in
    let y = c.step.new.x in
    let next = (c.step.ensures a.program.now.class q.0 q.1 q.2 q.3 q.4).0 in
    let going = c.in_default.ensures.settled a.program.now.code a.program.now.lengths a.program.now.class q.0 q.1 y q.2 (q.3 ++ (a.t ∷ [])) next refl in
    let less = reached_less q.2 q.3 a.t a.program.now.code a.program.now.lengths a.program.now.class q.0 q.1 y next (tried_enabled q.2 q.3 a.t (c.requires.2 q.0 q.1 q.2 q.3 q.4)) a.x.now q.4 in (
      omega (arith, c.decreases, less),
      (
        (q.0, q.1, q.2, q.3 ++ (a.t ∷ []), next),
        c.requires.1,
        λ z. true≢false (sym (reached_ended a.program.now.code a.program.now.lengths a.program.now.class q.0 q.1 y q.2 (q.3 ++ (a.t ∷ [])) next z) ∙ going),
      ),
    )

pub tally_with-returns : goal.tally_with-returns
tally_with-returns t c count groups p v at =
    let a = c.args in
    let y = c.step.new.x in
    let is = c.requires.2 count groups p v at in
    let next = (c.step.ensures a.program.now.class count groups p v at).0 in
    awake_numbers p v a.t is (sym (c.some_asleep.ensures a.program.now.class count groups y p (v ++ (a.t ∷ [])) next refl refl) ∙ c.if-some_asleep.false)
    _ (reached_failed p v a.t a.program.now.code a.program.now.lengths a.program.now.class count groups y next (tried_enabled p v a.t is) c.wide.result c.wide.ensures.same)
    c.tally_behind.result.listed c.tally_behind.result.failing _ _ (c.tally_behind.ensures count groups p (v ++ (a.t ∷ [])) next) c.charged-2.ensures.0 c.charged-2.ensures.1

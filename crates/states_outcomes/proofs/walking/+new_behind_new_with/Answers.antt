use Rattle.std.proofs.Common.{rules, ℕ, refl, sym, ap, ◌∙◌, List, [], ◌∷◌, ◌++◌, arith, length, take}
use Rattle.machine.proofs.HeldAsking.{fails_by_lem}
use Rattle.spec_schedules.specs.Lists.{head_of}
use Rattle.spec_sc.specs.Graph.{end_of}
use Rattle.search_place.proofs.ReachedStep.{reached_most, reached_ended, reached_going}
use Rattle.search_walk.proofs.TriedSteps.{tried_enabled}
use Rattle.states_walk.proofs.Numbered.{step_less}
use Rattle.states_walk.proofs.FirstFound.{one_more}
use Rattle.states_outcomes.specs.Rows.{is_new}
use Rattle.states_outcomes.proofs.FirstNew.{asleep_new, awake_new, ended_new, outcome_here, passed_new, marked_new, new_start, new_found, new_none, new_passed, new_over}
use Rattle.states_outcomes.proofs.walking.+new_behind_new_with.Goals.{new_behind-else-is_tried, new_behind-then-is_tried+in_default}
use Rattle.states_outcomes.proofs.walking.+new_behind_new_with.Goals as goal

pub new_behind-returns-then-x-eq0 : goal.new_behind-returns-then-x-eq0
new_behind-returns-then-x-eq0 t c =
    let a = c.args in
    let e = c.requires.0 in
    let r = c.steps_if.ensures in record {
      words = ((refl, refl), r.short (reached_most a.setup.now.program.code a.setup.now.program.lengths a.setup.now.program.class e.0 e.1 a.x.now.place e.2 e.3 e.4.reached));
      first = λ threads groups p v at wide marks. (
        r.found
            ∙ ended_new (is_new (take a.frame.cut a.lent.now) a.frame.known) p a.x.now.place.steps v
            (reached_ended a.setup.now.program.code a.setup.now.program.lengths a.setup.now.program.class threads groups a.x.now.place p v at.reached c.if-x-eq0.true) c.is_new-new.result (take a.x.now.place.steps a.x.now.place.schedule)
            (c.is_new-new.ensures ∙ outcome_here a.setup.now.program.code a.setup.now.program.lengths a.setup.now.program.class threads groups a.x.now p v at c.some_failed-failed.result (c.some_failed-failed.ensures ∙ fails_by_lem at.reached.holds)
            (is_new (take a.frame.cut a.lent.now) a.frame.known))
            at.reached.schedule,
        marks,
      );
    }

pub new_behind-outcome_key-k-requires : goal.new_behind-outcome_key-k-requires
new_behind-outcome_key-k-requires t c =
    let e = c.requires.0 in
    (c.args.setup.now.program.code, e.0, e.1, e.2, e.3, e.4)

pub new_behind-is_swept-requires : goal.new_behind-is_swept-requires
new_behind-is_swept-requires t c = let h = c.requires.3 in ((search rules), c.requires.5)

-- a marked key
pub new_behind-returns-then-is_swept : goal.new_behind-returns-then-is_swept
new_behind-returns-then-is_swept t c =
    let a = c.args in
    record {
      words = ((refl, refl), tt);
      first = λ threads groups p v at wide marks. (
        passed_new p at.reached.loaded.well_formed a.frame (take a.frame.cut a.lent.now) wide v at.reached.allowed a.x.now.place.steps at.reached.counted
            (reached_going a.setup.now.program.code a.setup.now.program.lengths a.setup.now.program.class threads groups a.x.now.place p v at.reached c.if-x-eq0.false) a.lent.now _
            (c.outcome_key-k.ensures a.setup.now.program.code threads groups a.frame.width p v at c.requires.2 (wide v (end_of p v) (refl, at.reached.allowed)) c.requires.3
            (c.some_failed-failed.ensures ∙ fails_by_lem at.reached.holds)) marks (c.is_swept.ensures c.if-is_swept.true),
        marks,
      );
    }

pub new_behind-loop-t-init : goal.new_behind-loop-t-init
new_behind-loop-t-init t c =
    let a = c.args in (
      (refl, refl),
      new_start a.setup.now.program.code a.setup.now.program.lengths a.setup.now.program.class a.frame a.x.now (take a.frame.cut a.lent.now) a.lent.now
          (λ threads groups p v at. reached_going a.setup.now.program.code a.setup.now.program.lengths a.setup.now.program.class threads groups a.x.now.place p v at.reached c.if-x-eq0.false),
    )

pub new_behind-new_with-requires : goal.new_behind-new_with-requires
new_behind-new_with-requires t c =
    let a = c.args in
    let n = c.loop-t.invariant.0.0 in (
      omega (arith, c.decreases),
      (c.requires.0, c.requires.1, c.requires.2, c.requires.3, c.requires.4, omega (arith, c.requires.5, n), λ threads groups p v at. sym (c.is_tried.ensures a.setup.now.program.code a.setup.now.program.lengths threads groups a.x.now.place p v at.reached refl refl refl) ∙ c.if-is_tried.true),
    )

-- found with t
pub new_behind-returns-in-Some : goal.new_behind-returns-in-Some
new_behind-returns-in-Some t c =
    let a = c.args in
    let loop = c.loop-t in
    let r = c.in-Some in record {
      words = ((r.ensures.words.0.0 ∙ loop.invariant.0.0, r.ensures.words.0.1 ∙ loop.invariant.0.1), r.ensures.words.1);
      first = λ threads groups p v at. new_found a.setup.now.program.code a.setup.now.program.lengths a.setup.now.program.class a.frame a.x.now (take a.frame.cut a.lent.now) a.lent.now loop.lent _ loop.t c.loop-t-test.true loop.invariant.1
          r.found (take a.frame.cut loop.lent) loop.invariant.0.1 r.ensures.first (threads, groups, p, v, at);
    }

-- none with a step that is tried, and none with one that is not
pub new_behind-loop-t-preserved : goal.new_behind-loop-t-preserved
new_behind-loop-t-preserved t c =
    let a = c.args in
    let loop = c.loop-t in
    let in-loop = c.loop-t-test.true in
    let rows : List ℕ = take a.frame.cut a.lent.now in
    elim c.if-is_tried.branch [
      | new_behind-then-is_tried+in_default w ↦ (
        (ap length w.lent-is ∙ w.in_default.ensures.words.0.0 ∙ loop.invariant.0.0, ap (take a.frame.cut) w.lent-is ∙ w.in_default.ensures.words.0.1 ∙ loop.invariant.0.1),
        new_none a.setup.now.program.code a.setup.now.program.lengths a.setup.now.program.class a.frame a.x.now rows a.lent.now loop.lent _ c.if-is_tried.lent loop.t in-loop loop.invariant.1
            (take a.frame.cut loop.lent) loop.invariant.0.1 w.in_default.ensures.first w.lent-is,
      )
      | new_behind-else-is_tried w ↦ (
        (ap length w.lent-is ∙ loop.invariant.0.0, ap (take a.frame.cut) w.lent-is ∙ loop.invariant.0.1),
        new_passed a.setup.now.program.code a.setup.now.program.lengths a.setup.now.program.class a.frame a.x.now rows a.lent.now loop.lent c.if-is_tried.lent loop.t in-loop loop.invariant.1
            (λ threads groups p v at. sym (c.is_tried.ensures a.setup.now.program.code a.setup.now.program.lengths threads groups a.x.now.place p v at.reached refl refl refl) ∙ w.if-is_tried.false) w.lent-is,
      )
    ]

pub new_behind-sweep-requires : goal.new_behind-sweep-requires
new_behind-sweep-requires t c = let n = c.loop-t.invariant.0.0 in let h = c.requires.3 in ((search rules), omega (arith, c.requires.5, n))

-- none: the key is marked
pub new_behind-returns : goal.new_behind-returns
new_behind-returns t c =
    let a = c.args in
    let loop = c.loop-t in
    let rows : List ℕ = take a.frame.cut a.lent.now in record {
      words = ((c.sweep.ensures.kept.0 ∙ loop.invariant.0.0, c.sweep.ensures.kept.1 ∙ loop.invariant.0.1), tt);
      first = λ threads groups p v at wide marks.
          let over = new_over a.setup.now.program.code a.setup.now.program.lengths a.setup.now.program.class a.frame a.x.now rows a.lent.now loop.lent loop.t c.loop-t-test.false loop.invariant.1 (threads, groups, p, v, at) wide marks in (
            over.0,
            marked_new p at.reached.loaded.well_formed a.frame rows wide v at.reached.allowed a.x.now.place.steps at.reached.counted
                (reached_going a.setup.now.program.code a.setup.now.program.lengths a.setup.now.program.class threads groups a.x.now.place p v at.reached c.if-x-eq0.false) loop.lent _ _
                (c.outcome_key-k.ensures a.setup.now.program.code threads groups a.frame.width p v at c.requires.2 (wide v (end_of p v) (refl, at.reached.allowed)) c.requires.3
                (c.some_failed-failed.ensures ∙ fails_by_lem at.reached.holds)) over.0 c.sweep.ensures.honest over.1,
          );
    }

-- ---- new_with
pub new_with-advance-requires : goal.new_with-advance-requires
new_with-advance-requires t c =
    let e = c.requires.0 in
    (c.args.setup.now.program.class, e.0, e.1, e.2, e.3, e.4, tried_enabled e.2 e.3 c.args.t (c.requires.6 e.0 e.1 e.2 e.3 e.4))

pub new_with-some_asleep-requires : goal.new_with-some_asleep-requires
new_with-some_asleep-requires t c =
    let a = c.args in
    let e = c.requires.0 in
    (a.setup.now.program.class, e.0, e.1, c.advance.new.x.place, e.2, e.3 ++ (a.t ∷ []), (c.advance.ensures a.setup.now.program.class e.0 e.1 e.2 e.3 e.4).reached, refl, refl, c.requires.1)

pub new_with-returns-then-some_asleep : goal.new_with-returns-then-some_asleep
new_with-returns-then-some_asleep t c =
    let a = c.args in record {
      words = ((refl, refl), tt);
      first = λ threads groups p v at wide marks. (
        asleep_new (is_new (take a.frame.cut a.lent.now) a.frame.known) p a.x.now.place.steps v a.t (c.requires.6 threads groups p v at)
            (sym (c.some_asleep.ensures a.setup.now.program.class threads groups c.advance.new.x.place p (v ++ (a.t ∷ [])) (c.advance.ensures a.setup.now.program.class threads groups p v at).reached refl refl) ∙ c.if-some_asleep.true)
            _ refl,
        marks,
      );
    }

pub new_with-new_behind-requires : goal.new_with-new_behind-requires
new_with-new_behind-requires t c =
    let a = c.args in
    let e = c.requires.0 in
    let next = c.advance.ensures a.setup.now.program.class e.0 e.1 e.2 e.3 e.4 in
    let less = step_less e.2 e.3 a.t a.setup.now.program.code a.setup.now.program.lengths a.setup.now.program.class e.0 e.1 c.advance.new.x next (tried_enabled e.2 e.3 a.t (c.requires.6 e.0 e.1 e.2 e.3 e.4)) a.x.now e.4 in
    (omega (arith, c.decreases, less), ((e.0, e.1, e.2, e.3 ++ (a.t ∷ []), next), c.requires.1, c.requires.2, c.requires.3, c.requires.4, c.requires.5))

pub new_with-returns : goal.new_with-returns
new_with-returns t c =
    let a = c.args in
    let behind = c.new_behind in record {
      words = behind.ensures.words;
      first = λ threads groups p v at wide marks.
          let is = c.requires.6 threads groups p v at in
          let next = c.advance.ensures a.setup.now.program.class threads groups p v at in
          let r = behind.ensures.first threads groups p (v ++ (a.t ∷ [])) next wide marks in (
            r.0
                ∙ ap head_of (awake_new (is_new (take a.frame.cut a.lent.now) a.frame.known) p a.x.now.place.steps v a.t is (sym (c.some_asleep.ensures a.setup.now.program.class threads groups c.advance.new.x.place p (v ++ (a.t ∷ [])) next.reached refl refl) ∙ c.if-some_asleep.false)
                c.advance.new.x.place.steps (one_more a.setup.now.program.code a.setup.now.program.lengths a.setup.now.program.class threads groups a.x.now.place c.advance.new.x.place p v a.t at.reached next.reached)),
            r.1,
          );
    }

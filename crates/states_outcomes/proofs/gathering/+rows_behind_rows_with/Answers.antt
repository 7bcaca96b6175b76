use Rattle.std.proofs.Common.{rules, ℕ, ◌*◌, ◌≤◌, refl, sym, ap, subst, ◌∙◌, [], ◌∷◌, ◌++◌, arith, length}
use Rattle.machine.proofs.HeldAsking.{fails_by_lem}
use Rattle.spec_sc.specs.Graph.{end_of}
use Rattle.search_place.proofs.ReachedStep.{reached_ended, reached_going}
use Rattle.search_walk.proofs.TriedSteps.{tried_enabled}
use Rattle.states_walk.proofs.Numbered.{step_less}
use Rattle.states_walk.proofs.FirstFound.{one_more}
use Rattle.states_outcomes.proofs.AllRows.{rows_if, end_rows, asleep_rows, awake_rows, passed_rows, marked_rows, rows_start, rows_next, rows_passed, rows_over}
use Rattle.states_outcomes.proofs.gathering.+rows_behind_rows_with.Goals.{rows_behind-else-is_tried, rows_behind-then-is_tried+in_ok-known}
use Rattle.states_outcomes.proofs.gathering.+rows_behind_rows_with.Goals as goal

pub rows_behind-add_row-requires : goal.rows_behind-add_row-requires
rows_behind-add_row-requires t c = (c.requires.4, c.requires.5)

-- the end of a run
pub rows_behind-returns-then-x-eq0 : goal.rows_behind-returns-then-x-eq0
rows_behind-returns-then-x-eq0 t c =
    let a = c.args in
    let r = c.add_row.ensures in record {
      words = r.words.0;
      within = r.within;
      rows = rows_if c.add_row.result r.row (λ n adds threads groups p v at wide.
          end_rows a.setup.now.program.code a.setup.now.program.lengths a.setup.now.program.class a.frame a.x.now threads groups p v at
          (reached_ended a.setup.now.program.code a.setup.now.program.lengths a.setup.now.program.class threads groups a.x.now.place p v at.reached c.if-x-eq0.true) c.some_failed-failed.result (c.some_failed-failed.ensures ∙ fails_by_lem at.reached.holds)
          a.lent.now _ n r.words.1 adds);
    }

pub rows_behind-outcome_key-k-requires : goal.rows_behind-outcome_key-k-requires
rows_behind-outcome_key-k-requires t c =
    let e = c.requires.0 in
    (c.args.setup.now.program.code, e.0, e.1, e.2, e.3, e.4)

pub rows_behind-is_swept-requires : goal.rows_behind-is_swept-requires
rows_behind-is_swept-requires t c = let h = c.requires.3 in ((search rules), c.requires.5)

-- a marked key
pub rows_behind-returns-then-is_swept : goal.rows_behind-returns-then-is_swept
rows_behind-returns-then-is_swept t c =
    let a = c.args in
    record {
      words = refl;
      within = c.requires.4;
      rows = λ threads groups p v at wide.
          passed_rows a.setup.now.program.code a.setup.now.program.lengths a.setup.now.program.class a.frame a.x.now threads groups p v at wide
          (reached_going a.setup.now.program.code a.setup.now.program.lengths a.setup.now.program.class threads groups a.x.now.place p v at.reached c.if-x-eq0.false) a.lent.now _
          (c.outcome_key-k.ensures a.setup.now.program.code threads groups a.frame.width p v at c.requires.2 (wide v (end_of p v) (refl, at.reached.allowed)) c.requires.3
          (c.some_failed-failed.ensures ∙ fails_by_lem at.reached.holds)) (c.is_swept.ensures c.if-is_swept.true);
    }

pub rows_behind-loop-t-init : goal.rows_behind-loop-t-init
rows_behind-loop-t-init t c =
    let a = c.args in
    (refl, c.requires.4, rows_start a.setup.now.program.code a.setup.now.program.lengths a.setup.now.program.class a.frame a.x.now a.lent.now)

pub rows_behind-rows_with-requires : goal.rows_behind-rows_with-requires
rows_behind-rows_with-requires t c =
    let a = c.args in
    let inv = c.loop-t.invariant in
    let n = inv.0 in (
      omega (arith, c.decreases),
      (c.requires.0, c.requires.1, c.requires.2, c.requires.3, inv.1, omega (arith, c.requires.5, n), λ threads groups p v at. sym (c.is_tried.ensures a.setup.now.program.code a.setup.now.program.lengths threads groups a.x.now.place p v at.reached refl refl refl) ∙ c.if-is_tried.true),
    )

-- with a step that is tried, and with one that is not
pub rows_behind-loop-t-preserved : goal.rows_behind-loop-t-preserved
rows_behind-loop-t-preserved t c =
    let a = c.args in
    let loop = c.loop-t in
    elim c.if-is_tried.branch [
      | rows_behind-then-is_tried+in_ok-known w ↦ (
        ap length w.lent-is ∙ w.in_ok-known.ensures.words ∙ loop.invariant.0,
        subst (λ (n : ℕ). 9 * n ≤ a.frame.cut) (sym w.known-is) w.in_ok-known.ensures.within,
        rows_next a.setup.now.program.code a.setup.now.program.lengths a.setup.now.program.class a.frame a.x.now a.lent.now loop.lent _ c.if-is_tried.lent loop.known _ c.if-is_tried.known loop.t loop.invariant.2
            w.in_ok-known.ensures.rows w.lent-is w.known-is,
      )
      | rows_behind-else-is_tried w ↦ (
        ap length w.lent-is ∙ loop.invariant.0,
        subst (λ (n : ℕ). 9 * n ≤ a.frame.cut) (sym w.known-is) loop.invariant.1,
        rows_passed a.setup.now.program.code a.setup.now.program.lengths a.setup.now.program.class a.frame a.x.now a.lent.now loop.lent c.if-is_tried.lent loop.known c.if-is_tried.known loop.t loop.invariant.2
            (λ threads groups p v at. sym (c.is_tried.ensures a.setup.now.program.code a.setup.now.program.lengths threads groups a.x.now.place p v at.reached refl refl refl) ∙ w.if-is_tried.false) w.lent-is w.known-is,
      )
    ]

pub rows_behind-sweep-requires : goal.rows_behind-sweep-requires
rows_behind-sweep-requires t c = let n = c.loop-t.invariant.0 in let h = c.requires.3 in ((search rules), omega (arith, c.requires.5, n))

-- all are gathered: the key is marked
pub rows_behind-returns : goal.rows_behind-returns
rows_behind-returns t c =
    let a = c.args in
    let loop = c.loop-t in
    let sweep = c.sweep in record {
      words = sweep.ensures.kept.0 ∙ loop.invariant.0;
      within = loop.invariant.1;
      rows = λ threads groups p v at wide.
          let going = reached_going a.setup.now.program.code a.setup.now.program.lengths a.setup.now.program.class threads groups a.x.now.place p v at.reached c.if-x-eq0.false in
          marked_rows a.setup.now.program.code a.setup.now.program.lengths a.setup.now.program.class a.frame a.x.now threads groups p v at wide going a.lent.now loop.lent _ _ loop.known
          (c.outcome_key-k.ensures a.setup.now.program.code threads groups a.frame.width p v at c.requires.2 (wide v (end_of p v) (refl, at.reached.allowed)) c.requires.3
          (c.some_failed-failed.ensures ∙ fails_by_lem at.reached.holds)) sweep.ensures.kept sweep.ensures.honest
          (rows_over a.setup.now.program.code a.setup.now.program.lengths a.setup.now.program.class a.frame a.x.now a.lent.now loop.lent loop.known loop.t c.loop-t-test.false loop.invariant.2 (threads, groups, p, v, at) wide going);
    }

-- ---- rows_with
pub rows_with-advance-requires : goal.rows_with-advance-requires
rows_with-advance-requires t c =
    let a = c.args in
    let e = c.requires.0 in
    (a.setup.now.program.class, e.0, e.1, e.2, e.3, e.4, tried_enabled e.2 e.3 a.t (c.requires.6 e.0 e.1 e.2 e.3 e.4))

pub rows_with-some_asleep-requires : goal.rows_with-some_asleep-requires
rows_with-some_asleep-requires t c =
    let a = c.args in
    let e = c.requires.0 in
    (a.setup.now.program.class, e.0, e.1, c.advance.new.x.place, e.2, e.3 ++ (a.t ∷ []), (c.advance.ensures a.setup.now.program.class e.0 e.1 e.2 e.3 e.4).reached, refl, refl, c.requires.1)

-- some are asleep behind the step
pub rows_with-returns-then-some_asleep : goal.rows_with-returns-then-some_asleep
rows_with-returns-then-some_asleep t c =
    let a = c.args in
    let next = c.advance in record {
      words = refl;
      within = c.requires.4;
      rows = λ threads groups p v at wide.
          asleep_rows a.setup.now.program.code a.setup.now.program.lengths a.setup.now.program.class a.frame a.x.now threads groups p v at a.t (c.requires.6 threads groups p v at)
          (sym (c.some_asleep.ensures a.setup.now.program.class threads groups next.new.x.place p (v ++ (a.t ∷ [])) (next.ensures a.setup.now.program.class threads groups p v at).reached refl refl) ∙ c.if-some_asleep.true) a.lent.now;
    }

pub rows_with-rows_behind-requires : goal.rows_with-rows_behind-requires
rows_with-rows_behind-requires t c =
    let a = c.args in
    let e = c.requires.0 in
    let next = c.advance.ensures a.setup.now.program.class e.0 e.1 e.2 e.3 e.4 in
    let less = step_less e.2 e.3 a.t a.setup.now.program.code a.setup.now.program.lengths a.setup.now.program.class e.0 e.1 c.advance.new.x next (tried_enabled e.2 e.3 a.t (c.requires.6 e.0 e.1 e.2 e.3 e.4)) a.x.now e.4 in
    (omega (arith, c.decreases, less), ((e.0, e.1, e.2, e.3 ++ (a.t ∷ []), next), c.requires.1, c.requires.2, c.requires.3, c.requires.4, c.requires.5))

pub rows_with-returns : goal.rows_with-returns
rows_with-returns t c =
    let a = c.args in
    let behind = c.rows_behind in
    let next = c.advance in record {
      words = behind.ensures.words;
      within = behind.ensures.within;
      rows = rows_if behind.result behind.ensures.rows (λ n all threads groups p v at wide.
          let is = c.requires.6 threads groups p v at in
          let there = next.ensures a.setup.now.program.class threads groups p v at in
          awake_rows a.setup.now.program.code a.setup.now.program.lengths a.setup.now.program.class a.frame a.x.now p v a.t is
          (sym (c.some_asleep.ensures a.setup.now.program.class threads groups next.new.x.place p (v ++ (a.t ∷ [])) there.reached refl refl) ∙ c.if-some_asleep.false)
          next.new.x.place.steps (one_more a.setup.now.program.code a.setup.now.program.lengths a.setup.now.program.class threads groups a.x.now.place next.new.x.place p v a.t at.reached there.reached)
          a.lent.now _ n (all threads groups p (v ++ (a.t ∷ [])) there wide));
    }

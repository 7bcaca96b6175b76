use Rattle.std.proofs.Common.{refl, sym, ap, ◌∙◌, [], ◌∷◌, ◌++◌, arith, length, take}
use Rattle.machine.proofs.HeldAsking.{fails_by_lem}
use Rattle.spec_schedules.specs.Lists.{head_of}
use Rattle.spec_sc.specs.Graph.{end_of}
use Rattle.search_place.proofs.ReachedStep.{reached_most, reached_ended, reached_going}
use Rattle.search_walk.proofs.TriedSteps.{tried_enabled}
use Rattle.search_walk.proofs.WalkLoop.{none_sleeps}
use Rattle.states_walk.proofs.Numbered.{step_less}
use Rattle.states_walk.proofs.FirstFound.{head_if, asleep_first, awake_first, one_more, ended_first, passed, marked, seeks_start, turn_found, turn_none, turn_passed, seeks_over}
use Rattle.states_walk.proofs.seeking.+first_among_first_behind_first_with.Goals.{first_among-else-is_tried, first_among-then-is_tried+in_default}
use Rattle.states_walk.proofs.seeking.+first_among_first_behind_first_with.Goals as goal

-- ---- first_among
pub first_among-loop-t-init : goal.first_among-loop-t-init
first_among-loop-t-init t c =
    let a = c.args in (
      refl,
      seeks_start a.setup.now.program.code a.setup.now.program.lengths a.setup.now.program.class a.shape.width a.shape.slots a.x.now a.table.now
          (λ threads groups p v at. reached_going a.setup.now.program.code a.setup.now.program.lengths a.setup.now.program.class threads groups a.x.now.place p v at.reached c.requires.4),
    )

pub first_among-first_with-requires : goal.first_among-first_with-requires
first_among-first_with-requires t c =
    let a = c.args in (
      omega (arith, c.decreases),
      (
        c.requires.0,
        c.requires.1,
        c.requires.2,
        c.requires.3,
        λ threads groups p v at. sym (c.is_tried.ensures a.setup.now.program.code a.setup.now.program.lengths threads groups a.x.now.place p v at.reached refl refl refl) ∙ c.if-is_tried.true,
      ),
    )

-- found with t
pub first_among-returns-in-Some : goal.first_among-returns-in-Some
first_among-returns-in-Some t c =
    let a = c.args in
    let loop = c.loop-t in
    let r = c.in-Some in record {
      words = (r.ensures.words.0 ∙ loop.invariant.0, r.ensures.words.1);
      first = λ threads groups p v at. turn_found a.setup.now.program.code a.setup.now.program.lengths a.setup.now.program.class a.shape.width a.shape.slots a.x.now a.table.now loop.table _ loop.t c.loop-t-test.true loop.invariant.1
          r.found r.ensures.first (threads, groups, p, v, at);
    }

-- none with a step that is tried, and none with one that is not
pub first_among-loop-t-preserved : goal.first_among-loop-t-preserved
first_among-loop-t-preserved t c =
    let a = c.args in
    let loop = c.loop-t in
    let in-loop = c.loop-t-test.true in
    elim c.if-is_tried.branch [
      | first_among-then-is_tried+in_default w ↦ (
        ap length w.table-is ∙ w.in_default.ensures.words.0 ∙ loop.invariant.0,
        turn_none a.setup.now.program.code a.setup.now.program.lengths a.setup.now.program.class a.shape.width a.shape.slots a.x.now a.table.now loop.table _ c.if-is_tried.table loop.t in-loop loop.invariant.1 w.in_default.ensures.first w.table-is,
      )
      | first_among-else-is_tried w ↦ (
        ap length w.table-is ∙ loop.invariant.0,
        turn_passed a.setup.now.program.code a.setup.now.program.lengths a.setup.now.program.class a.shape.width a.shape.slots a.x.now a.table.now loop.table c.if-is_tried.table loop.t in-loop loop.invariant.1
            (λ threads groups p v at. sym (c.is_tried.ensures a.setup.now.program.code a.setup.now.program.lengths threads groups a.x.now.place p v at.reached refl refl refl) ∙ w.if-is_tried.false) w.table-is,
      )
    ]

pub first_among-returns-clause-first : goal.first_among-returns-clause-first
first_among-returns-clause-first t c threads groups p v at wide marks =
    let a = c.args in
    seeks_over a.setup.now.program.code a.setup.now.program.lengths a.setup.now.program.class a.shape.width a.shape.slots a.x.now a.table.now c.loop-t.table c.loop-t.t c.loop-t-test.false c.loop-t.invariant.1 (threads, groups, p, v, at) wide marks

-- ---- first_behind
pub first_behind-returns-then-x-eq0 : goal.first_behind-returns-then-x-eq0
first_behind-returns-then-x-eq0 t c =
    let a = c.args in
    let e = c.requires.0 in
    let r = c.steps_if.ensures in record {
      words = (refl, r.short (omega (arith, reached_most a.setup.now.program.code a.setup.now.program.lengths a.setup.now.program.class e.0 e.1 a.x.now.place e.2 e.3 e.4.reached)));
      first = λ threads groups p v at wide marks. (
        r.found
            ∙ ended_first p a.x.now.place.steps v (reached_ended a.setup.now.program.code a.setup.now.program.lengths a.setup.now.program.class threads groups a.x.now.place p v at.reached c.if-x-eq0.true) c.some_failed-failed.result
            (c.some_failed-failed.ensures ∙ fails_by_lem at.reached.holds) (take a.x.now.place.steps a.x.now.place.schedule) at.reached.schedule,
        marks,
      );
    }

pub first_behind-plain_among-requires : goal.first_behind-plain_among-requires
first_behind-plain_among-requires t c =
    let e = c.requires.0 in
    ((e.0, e.1, e.2, e.3, e.4.reached), c.requires.1, c.if-x-eq0.false)

-- without a key
pub first_behind-returns-then-failed : goal.first_behind-returns-then-failed
first_behind-returns-then-failed t c = record { words = (refl, c.plain_among.ensures.within); first = λ threads groups p v at wide marks. (c.plain_among.ensures.first threads groups p v at.reached, marks) }

pub first_behind-key-k-requires : goal.first_behind-key-k-requires
first_behind-key-k-requires t c =
    let e = c.requires.0 in
    (c.args.setup.now.program.code, e.0, e.1, e.2, e.3, e.4)

-- a marked key
pub first_behind-returns-then-is_marked : goal.first_behind-returns-then-is_marked
first_behind-returns-then-is_marked t c =
    let a = c.args in record {
      words = (refl, tt);
      first = λ threads groups p v at wide marks. (
        passed p at.reached.loaded.well_formed a.shape.width a.shape.slots wide v at.reached.allowed a.x.now.place.steps at.reached.counted
            (sym (c.some_failed-failed.ensures ∙ fails_by_lem at.reached.holds) ∙ c.if-failed.false) a.table.now _
            (c.key-k.ensures a.setup.now.program.code threads groups a.shape.width p v at c.requires.2 (wide v (end_of p v) (refl, at.reached.allowed)) c.requires.3) marks (c.is_marked.ensures c.if-is_marked.true),
        marks,
      );
    }

pub first_behind-first_among-requires : goal.first_behind-first_among-requires
first_behind-first_among-requires t c = (omega (arith, c.decreases), (c.requires.0, c.requires.1, c.requires.2, c.requires.3, c.if-x-eq0.false))

-- found
pub first_behind-returns-in-Some : goal.first_behind-returns-in-Some
first_behind-returns-in-Some t c = c.in-Some.ensures

-- none: the key is marked
pub first_behind-returns : goal.first_behind-returns
first_behind-returns t c =
    let a = c.args in
    let none = c.in_default.ensures in record {
      words = (c.mark.ensures.words ∙ none.words.0, tt);
      first = λ threads groups p v at wide marks.
          let q = none.first threads groups p v at wide marks in (
            q.0,
            marked p at.reached.loaded.well_formed a.shape.width a.shape.slots wide v at.reached.allowed a.x.now.place.steps at.reached.counted
                (sym (c.some_failed-failed.ensures ∙ fails_by_lem at.reached.holds) ∙ c.if-failed.false) _ _ _
                (c.key-k.ensures a.setup.now.program.code threads groups a.shape.width p v at c.requires.2 (wide v (end_of p v) (refl, at.reached.allowed)) c.requires.3) q.0 c.mark.ensures.honest q.1,
          );
    }

-- ---- first_with
pub first_with-advance-requires : goal.first_with-advance-requires
first_with-advance-requires t c =
    let e = c.requires.0 in
    (c.args.setup.now.program.class, e.0, e.1, e.2, e.3, e.4, tried_enabled e.2 e.3 c.args.t (c.requires.4 e.0 e.1 e.2 e.3 e.4))

pub first_with-some_asleep-requires : goal.first_with-some_asleep-requires
first_with-some_asleep-requires t c =
    let a = c.args in
    let e = c.requires.0 in
    (a.setup.now.program.class, e.0, e.1, c.advance.new.x.place, e.2, e.3 ++ (a.t ∷ []), (c.advance.ensures a.setup.now.program.class e.0 e.1 e.2 e.3 e.4).reached, refl, refl, c.requires.1)

pub first_with-returns-then-some_asleep : goal.first_with-returns-then-some_asleep
first_with-returns-then-some_asleep t c =
    let a = c.args in record {
      words = (refl, tt);
      first = λ threads groups p v at wide marks. (
        asleep_first p a.x.now.place.steps v a.t (c.requires.4 threads groups p v at)
            (sym (c.some_asleep.ensures a.setup.now.program.class threads groups c.advance.new.x.place p (v ++ (a.t ∷ [])) (c.advance.ensures a.setup.now.program.class threads groups p v at).reached refl refl) ∙ c.if-some_asleep.true) _ refl,
        marks,
      );
    }

pub first_with-ran_out-end-requires : goal.first_with-ran_out-end-requires
first_with-ran_out-end-requires t c =
    let a = c.args in
    let e = c.requires.0 in (
      (a.setup.now.program.class, e.0, e.1, c.advance.new.x.place, e.2, e.3 ++ (a.t ∷ []), (c.advance.ensures a.setup.now.program.class e.0 e.1 e.2 e.3 e.4).reached, c.of-r.ensures.held),
      c.in-Some.ensures.within,
    )

-- one thread is left
pub first_with-returns-in-Some : goal.first_with-returns-in-Some
first_with-returns-in-Some t c =
    let a = c.args in
    let y = c.advance.new.x.place in
    let r = c.steps_if.ensures in record {
      words = (refl, r.short c.ran_out-end.ensures.within);
      first = λ threads groups p v at wide marks.
          let is = c.requires.4 threads groups p v at in
          let next = (c.advance.ensures a.setup.now.program.class threads groups p v at).reached in
          let awake = sym (c.some_asleep.ensures a.setup.now.program.class threads groups y p (v ++ (a.t ∷ [])) next refl refl) ∙ c.if-some_asleep.false in
          let settled = c.in-Some.ensures.settled a.setup.now.program.code a.setup.now.program.lengths a.setup.now.program.class threads groups y p (v ++ (a.t ∷ [])) next refl (none_sleeps p (v ++ (a.t ∷ [])) awake) in
          let ran = (c.ran_out-end.ensures.last a.setup.now.program.class threads groups y p (v ++ (a.t ∷ [])) next c.of-r.ensures.held settled).1
          (c.of-r.ensures.failed ∙ c.some_failed.ensures ∙ fails_by_lem next.holds) in (
            r.found ∙ head_if c.ran_out-end.result.failed _
                ∙ ap head_of (sym ran ∙ awake_first p a.x.now.place.steps v a.t is awake y.steps (one_more a.setup.now.program.code a.setup.now.program.lengths a.setup.now.program.class threads groups a.x.now.place y p v a.t at.reached next)),
            marks,
          );
    }

pub first_with-first_behind-requires : goal.first_with-first_behind-requires
first_with-first_behind-requires t c =
    let a = c.args in
    let e = c.requires.0 in
    let next = c.advance.ensures a.setup.now.program.class e.0 e.1 e.2 e.3 e.4 in
    let less = step_less e.2 e.3 a.t a.setup.now.program.code a.setup.now.program.lengths a.setup.now.program.class e.0 e.1 c.advance.new.x next (tried_enabled e.2 e.3 a.t (c.requires.4 e.0 e.1 e.2 e.3 e.4)) a.x.now e.4 in
    (omega (arith, c.decreases, less), ((e.0, e.1, e.2, e.3 ++ (a.t ∷ []), next), c.requires.1, c.requires.2, c.requires.3))

pub first_with-returns : goal.first_with-returns
first_with-returns t c =
    let a = c.args in
    let y = c.advance.new.x.place in
    let behind = c.first_behind in record {
      words = behind.ensures.words;
      first = λ threads groups p v at wide marks.
          let is = c.requires.4 threads groups p v at in
          let next = c.advance.ensures a.setup.now.program.class threads groups p v at in
          let awake = sym (c.some_asleep.ensures a.setup.now.program.class threads groups y p (v ++ (a.t ∷ [])) next.reached refl refl) ∙ c.if-some_asleep.false in
          let r = behind.ensures.first threads groups p (v ++ (a.t ∷ [])) next wide marks in (
            r.0
                ∙ ap head_of (awake_first p a.x.now.place.steps v a.t is awake y.steps (one_more a.setup.now.program.code a.setup.now.program.lengths a.setup.now.program.class threads groups a.x.now.place y p v a.t at.reached next.reached)),
            r.1,
          );
    }

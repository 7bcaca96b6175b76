use Rattle.std.proofs.Common.{rules, ℕ, ◌≡◌, refl, sym, ap, ◌∙◌, false, List, [], ◌∷◌, ◌++◌, arith, length, take}
use Rattle.machine.proofs.HeldAsking.{fails_by_lem}
use Rattle.spec_schedules.specs.Lists.{head_of}
use Rattle.spec_schedules.specs.System.{ended}
use Rattle.spec_tso.specs.State.{TSO, fails}
use Rattle.spec_tso.specs.Graph.{end_of}
use Rattle.tso_walk.proofs.TriedBytes.{tried_enabled}
use Rattle.tso_walk.proofs.ReachedEnd.{reached_most}
use Rattle.states_outcomes.specs.Rows.{is_new}
use Rattle.tso_states.specs.Position.{Position}
use Rattle.tso_states.proofs.NextSpot.{admitted, has_room, one_more, step_less}
use Rattle.tso_states.proofs.Numbered.{next_position}
use Rattle.tso_outcomes.proofs.FirstNew.{asleep_new, awake_new, ended_new, outcome_here, passed_new, marked_new, new_start, new_found, new_none, new_passed, new_over}
use Rattle.tso_outcomes.proofs.walking.+new_behind_new_with.Goals.{new_behind-else-is_tried, new_behind-then-is_tried+in_default}
use Rattle.tso_outcomes.proofs.walking.+new_behind_new_with.Goals as goal

pub new_behind-steps_if-requires : goal.new_behind-steps_if-requires
new_behind-steps_if-requires t c =
    let a = c.args in
    let e = c.requires.0 in
    reached_most a.setup.now.program.code a.setup.now.program.lengths a.setup.now.program.class e.threads e.groups a.x.now.place e.program e.prefix e.stands.reached

pub new_behind-returns-then-is_over-clause-first : goal.new_behind-returns-then-is_over-clause-first
unfolding fails
new_behind-returns-then-is_over-clause-first t c =
    let a = c.args in
    λ d marks. (
      c.steps_if.ensures.found
          ∙ ended_new (is_new (take a.frame.cut a.lent.now) a.frame.known) d.program a.x.now.place.steps d.prefix
          (sym (c.is_over.ensures a.setup.now.program.code a.setup.now.program.lengths a.setup.now.program.class d.threads d.groups a.x.now.place d.program d.prefix d.stands.reached refl) ∙ c.if-is_over.true) _ _
          (c.is_new.ensures ∙ outcome_here a.setup.now.program.code a.setup.now.program.lengths a.setup.now.program.class d.threads d.groups a.x.now d.program d.prefix d.stands c.some_failed-failed.result (c.some_failed-failed.ensures ∙ fails_by_lem d.stands.reached.holds.core)
          (is_new (take a.frame.cut a.lent.now) a.frame.known)) d.stands.reached.schedule,
      marks,
    )

pub new_behind-outcome_key-k-requires : goal.new_behind-outcome_key-k-requires
new_behind-outcome_key-k-requires t c = let e = c.requires.0 in (c.args.setup.now.program.code, e.threads, e.groups, e.program, e.prefix, e.stands)

pub new_behind-is_swept-requires : goal.new_behind-is_swept-requires
new_behind-is_swept-requires t c = let h = c.requires.3 in (search rules, c.requires.5)

-- a marked key
pub new_behind-returns-then-is_swept-clause-first : goal.new_behind-returns-then-is_swept-clause-first
unfolding fails
new_behind-returns-then-is_swept-clause-first t c =
    let a = c.args in
    λ d marks.
    let at = d.stands in
    let p = d.program in
    let v = d.prefix in (
      passed_new p (admitted a.setup.now.program.code a.setup.now.program.lengths a.setup.now.program.class d.threads d.groups a.x.now p v at) a.frame (take a.frame.cut a.lent.now) d.wide v at.reached.allowed a.x.now.place.steps at.reached.counted
          (sym (c.is_over.ensures a.setup.now.program.code a.setup.now.program.lengths a.setup.now.program.class d.threads d.groups a.x.now.place p v at.reached refl) ∙ c.if-is_over.false) a.lent.now _
          (c.outcome_key-k.ensures a.setup.now.program.code d.threads d.groups a.frame.width p v at c.requires.2 (d.wide v (end_of p v) (refl, at.reached.allowed)) c.requires.3
          (c.some_failed-failed.ensures ∙ fails_by_lem at.reached.holds.core)) marks (c.is_swept.ensures c.if-is_swept.true),
      marks,
    )

pub new_behind-loop-b-init : goal.new_behind-loop-b-init
new_behind-loop-b-init t c =
    let a = c.args in
    let going : (d : Position a.setup.now.program.code a.setup.now.program.lengths a.setup.now.program.class a.frame.width a.x.now) → ended TSO (end_of d.program d.prefix) ≡ false = λ d. sym (c.is_over.ensures a.setup.now.program.code a.setup.now.program.lengths a.setup.now.program.class d.threads d.groups a.x.now.place d.program d.prefix d.stands.reached refl) ∙ c.if-is_over.false in (
      (refl, refl),
      new_start a.setup.now.program.code a.setup.now.program.lengths a.setup.now.program.class a.frame a.x.now (take a.frame.cut a.lent.now) a.lent.now going
          (λ d. has_room a.setup.now.program.code a.setup.now.program.lengths a.setup.now.program.class d.threads d.groups a.x.now d.program d.prefix d.stands (going d)),
    )

pub new_behind-new_with-requires : goal.new_behind-new_with-requires
new_behind-new_with-requires t c =
    let a = c.args in
    let n = c.loop-b.invariant.0.0 in (
      omega (arith, c.decreases),
      (c.requires.0, c.requires.1, c.requires.2, c.requires.3, c.requires.4, omega (arith, c.requires.5, n), λ d. sym (c.is_tried.ensures a.setup.now.program.code a.setup.now.program.lengths d.threads d.groups a.x.now.place d.program d.prefix d.stands.reached refl refl) ∙ c.if-is_tried.true),
    )

-- found with b
pub new_behind-returns-in-Some : goal.new_behind-returns-in-Some
new_behind-returns-in-Some t c =
    let a = c.args in
    let loop = c.loop-b in
    let r = c.in-Some in record {
      words = ((r.ensures.words.0.0 ∙ loop.invariant.0.0, r.ensures.words.0.1 ∙ loop.invariant.0.1), r.ensures.words.1);
      first = new_found a.setup.now.program.code a.setup.now.program.lengths a.setup.now.program.class a.frame a.x.now (take a.frame.cut a.lent.now) a.lent.now loop.lent _ loop.b c.loop-b-test.true loop.invariant.1
          _ (take a.frame.cut loop.lent) loop.invariant.0.1 r.ensures.first;
    }

-- none with a step that is tried, and none with one that is not
pub new_behind-loop-b-preserved : goal.new_behind-loop-b-preserved
new_behind-loop-b-preserved t c =
    let a = c.args in
    let loop = c.loop-b in
    let in-loop = c.loop-b-test.true in
    let rows : List ℕ = take a.frame.cut a.lent.now in
    elim c.if-is_tried.branch [
      | new_behind-then-is_tried+in_default w ↦ (
        (ap length w.lent-is ∙ w.in_default.ensures.words.0.0 ∙ loop.invariant.0.0, ap (take a.frame.cut) w.lent-is ∙ w.in_default.ensures.words.0.1 ∙ loop.invariant.0.1),
        new_none a.setup.now.program.code a.setup.now.program.lengths a.setup.now.program.class a.frame a.x.now rows a.lent.now loop.lent _ c.if-is_tried.lent loop.b in-loop loop.invariant.1
            (take a.frame.cut loop.lent) loop.invariant.0.1 w.in_default.ensures.first w.lent-is,
      )
      | new_behind-else-is_tried w ↦ (
        (ap length w.lent-is ∙ loop.invariant.0.0, ap (take a.frame.cut) w.lent-is ∙ loop.invariant.0.1),
        new_passed a.setup.now.program.code a.setup.now.program.lengths a.setup.now.program.class a.frame a.x.now rows a.lent.now loop.lent c.if-is_tried.lent loop.b in-loop loop.invariant.1
            (λ d. sym (c.is_tried.ensures a.setup.now.program.code a.setup.now.program.lengths d.threads d.groups a.x.now.place d.program d.prefix d.stands.reached refl refl) ∙ w.if-is_tried.false) w.lent-is,
      )
    ]

pub new_behind-sweep-requires : goal.new_behind-sweep-requires
new_behind-sweep-requires t c = let n = c.loop-b.invariant.0.0 in let h = c.requires.3 in (search rules, omega (arith, c.requires.5, n))

-- none: the key is marked
pub new_behind-returns : goal.new_behind-returns
unfolding fails
new_behind-returns t c =
    let a = c.args in
    let loop = c.loop-b in
    let rows : List ℕ = take a.frame.cut a.lent.now in record {
      words = ((c.sweep.ensures.kept.0 ∙ loop.invariant.0.0, c.sweep.ensures.kept.1 ∙ loop.invariant.0.1), tt);
      first = λ d marks.
          let at = d.stands in
          let p = d.program in
          let v = d.prefix in
          let over = new_over a.setup.now.program.code a.setup.now.program.lengths a.setup.now.program.class a.frame a.x.now rows a.lent.now loop.lent loop.b c.loop-b-test.false loop.invariant.1 d marks in (
            over.0,
            marked_new p (admitted a.setup.now.program.code a.setup.now.program.lengths a.setup.now.program.class d.threads d.groups a.x.now p v at) a.frame rows d.wide v at.reached.allowed a.x.now.place.steps at.reached.counted
                (sym (c.is_over.ensures a.setup.now.program.code a.setup.now.program.lengths a.setup.now.program.class d.threads d.groups a.x.now.place p v at.reached refl) ∙ c.if-is_over.false) loop.lent _ _
                (c.outcome_key-k.ensures a.setup.now.program.code d.threads d.groups a.frame.width p v at c.requires.2 (d.wide v (end_of p v) (refl, at.reached.allowed)) c.requires.3
                (c.some_failed-failed.ensures ∙ fails_by_lem at.reached.holds.core)) over.0 c.sweep.ensures.honest over.1,
          );
    }

-- ---- new_with
pub new_with-stepped-y-requires : goal.new_with-stepped-y-requires
new_with-stepped-y-requires t c =
    let e = c.requires.0 in
    (e.threads, e.groups, e.program, e.prefix, e.stands, tried_enabled e.program e.prefix c.args.b (c.requires.6 e))

pub new_with-some_asleep-requires : goal.new_with-some_asleep-requires
new_with-some_asleep-requires t c =
    let a = c.args in
    let e = c.requires.0 in
    let next = c.stepped-y.ensures e.threads e.groups e.program e.prefix e.stands (tried_enabled e.program e.prefix a.b (c.requires.6 e)) in
    ((a.setup.now.program.class, e.threads, e.groups, e.program, e.prefix ++ (a.b ∷ []), next.reached), c.requires.1)

-- some byte is asleep for good
pub new_with-returns-then-some_asleep-clause-first : goal.new_with-returns-then-some_asleep-clause-first
new_with-returns-then-some_asleep-clause-first t c =
    let a = c.args in
    λ d marks.
    let is = c.requires.6 d in
    let next = c.stepped-y.ensures d.threads d.groups d.program d.prefix d.stands (tried_enabled d.program d.prefix a.b is) in (
      asleep_new (is_new (take a.frame.cut a.lent.now) a.frame.known) d.program a.x.now.place.steps d.prefix a.b is (sym (c.some_asleep.ensures a.setup.now.program.class d.threads d.groups d.program (d.prefix ++ (a.b ∷ [])) next.reached) ∙ c.if-some_asleep.true),
      marks,
    )

pub new_with-new_behind-requires : goal.new_with-new_behind-requires
new_with-new_behind-requires t c =
    let a = c.args in
    let e = c.requires.0 in
    let may = tried_enabled e.program e.prefix a.b (c.requires.6 e) in
    let next = c.stepped-y.ensures e.threads e.groups e.program e.prefix e.stands may in
    let less = step_less a.setup.now.program.code a.setup.now.program.lengths a.setup.now.program.class e.threads e.groups a.x.now e.program e.prefix e.stands a.b may c.stepped-y.result next in
    (omega (arith, c.decreases, less), (next_position a.setup.now.program.code a.setup.now.program.lengths a.setup.now.program.class a.frame.width a.x.now c.stepped-y.result a.b e next, c.requires.1, c.requires.2, c.requires.3, c.requires.4, c.requires.5))

pub new_with-returns : goal.new_with-returns
new_with-returns t c =
    let a = c.args in
    let y = c.stepped-y in
    let behind = c.new_behind in record {
      words = behind.ensures.words;
      first = λ d marks.
          let is = c.requires.6 d in
          let may = tried_enabled d.program d.prefix a.b is in
          let next = y.ensures d.threads d.groups d.program d.prefix d.stands may in
          let r = behind.ensures.first (next_position a.setup.now.program.code a.setup.now.program.lengths a.setup.now.program.class a.frame.width a.x.now y.result a.b d next) marks in (
            r.0
                ∙ ap head_of (awake_new (is_new (take a.frame.cut a.lent.now) a.frame.known) d.program a.x.now.place.steps d.prefix a.b is (sym (c.some_asleep.ensures a.setup.now.program.class d.threads d.groups d.program (d.prefix ++ (a.b ∷ [])) next.reached) ∙ c.if-some_asleep.false)
                y.result.place.steps (one_more a.setup.now.program.code a.setup.now.program.lengths a.setup.now.program.class d.threads d.groups a.x.now d.program d.prefix d.stands a.b may y.result next)),
            r.1,
          );
    }

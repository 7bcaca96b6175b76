use Rattle.std.proofs.Common.{rules, ℕ, ◌*◌, ◌≤◌, refl, sym, ap, subst, ◌∙◌, [], ◌∷◌, ◌++◌, arith, length}
use Rattle.machine.proofs.HeldAsking.{fails_by_lem}
use Rattle.spec_tso.specs.State.{fails}
use Rattle.spec_tso.specs.Graph.{end_of}
use Rattle.tso_walk.proofs.TriedBytes.{tried_enabled}
use Rattle.tso_states.proofs.NextSpot.{one_more, step_less}
use Rattle.tso_states.proofs.Numbered.{next_position}
use Rattle.states_outcomes.proofs.AllRows.{rows_if}
use Rattle.tso_outcomes.proofs.AllRows.{end_rows, asleep_rows, awake_rows, passed_rows, marked_rows, rows_start, rows_next, rows_passed, rows_over}
use Rattle.tso_outcomes.proofs.gathering.+rows_behind_rows_with.Goals.{rows_behind-else-is_tried, rows_behind-then-is_tried+in_ok-known}
use Rattle.tso_outcomes.proofs.gathering.+rows_behind_rows_with.Goals as goal

pub rows_behind-add_row-requires : goal.rows_behind-add_row-requires
rows_behind-add_row-requires t c = (c.requires.4, c.requires.5)

-- the end of a run
pub rows_behind-returns-then-is_over : goal.rows_behind-returns-then-is_over
unfolding fails
rows_behind-returns-then-is_over t c =
    let a = c.args in
    let r = c.add_row.ensures in record {
      words = r.words.0;
      within = r.within;
      rows = rows_if c.add_row.result r.row (λ n adds d.
          end_rows a.setup.now.program.code a.setup.now.program.lengths a.setup.now.program.class a.frame a.x.now d
          (sym (c.is_over.ensures a.setup.now.program.code a.setup.now.program.lengths a.setup.now.program.class d.threads d.groups a.x.now.place d.program d.prefix d.stands.reached refl) ∙ c.if-is_over.true)
          c.some_failed-failed.result (c.some_failed-failed.ensures ∙ fails_by_lem d.stands.reached.holds.core)
          a.lent.now _ n r.words.1 adds);
    }

pub rows_behind-outcome_key-k-requires : goal.rows_behind-outcome_key-k-requires
rows_behind-outcome_key-k-requires t c = let e = c.requires.0 in (c.args.setup.now.program.code, e.threads, e.groups, e.program, e.prefix, e.stands)

pub rows_behind-is_swept-requires : goal.rows_behind-is_swept-requires
rows_behind-is_swept-requires t c = let h = c.requires.3 in (search rules, c.requires.5)

-- a marked key
pub rows_behind-returns-then-is_swept : goal.rows_behind-returns-then-is_swept
unfolding fails
rows_behind-returns-then-is_swept t c =
    let a = c.args in
    record {
      words = refl;
      within = c.requires.4;
      rows = λ d.
          let at = d.stands in
          let p = d.program in
          let v = d.prefix in
          passed_rows a.setup.now.program.code a.setup.now.program.lengths a.setup.now.program.class a.frame a.x.now d
          (sym (c.is_over.ensures a.setup.now.program.code a.setup.now.program.lengths a.setup.now.program.class d.threads d.groups a.x.now.place p v at.reached refl) ∙ c.if-is_over.false) a.lent.now _
          (c.outcome_key-k.ensures a.setup.now.program.code d.threads d.groups a.frame.width p v at c.requires.2 (d.wide v (end_of p v) (refl, at.reached.allowed)) c.requires.3
          (c.some_failed-failed.ensures ∙ fails_by_lem at.reached.holds.core)) (c.is_swept.ensures c.if-is_swept.true);
    }

pub rows_behind-loop-b-init : goal.rows_behind-loop-b-init
rows_behind-loop-b-init t c =
    let a = c.args in
    (refl, c.requires.4, rows_start a.setup.now.program.code a.setup.now.program.lengths a.setup.now.program.class a.frame a.x.now a.lent.now)

pub rows_behind-rows_with-requires : goal.rows_behind-rows_with-requires
rows_behind-rows_with-requires t c =
    let a = c.args in
    let inv = c.loop-b.invariant in
    let n = inv.0 in (
      omega (arith, c.decreases),
      (c.requires.0, c.requires.1, c.requires.2, c.requires.3, inv.1, omega (arith, c.requires.5, n), λ d. sym (c.is_tried.ensures a.setup.now.program.code a.setup.now.program.lengths d.threads d.groups a.x.now.place d.program d.prefix d.stands.reached refl refl) ∙ c.if-is_tried.true),
    )

-- with a step that is tried, and with one that is not
pub rows_behind-loop-b-preserved : goal.rows_behind-loop-b-preserved
rows_behind-loop-b-preserved t c =
    let a = c.args in
    let loop = c.loop-b in
    elim c.if-is_tried.branch [
      | rows_behind-then-is_tried+in_ok-known w ↦ (
        ap length w.lent-is ∙ w.in_ok-known.ensures.words ∙ loop.invariant.0,
        subst (λ (n : ℕ). 9 * n ≤ a.frame.cut) (sym w.known-is) w.in_ok-known.ensures.within,
        rows_next a.setup.now.program.code a.setup.now.program.lengths a.setup.now.program.class a.frame a.x.now a.lent.now loop.lent _ c.if-is_tried.lent loop.known _ c.if-is_tried.known loop.b loop.invariant.2
            w.in_ok-known.ensures.rows w.lent-is w.known-is,
      )
      | rows_behind-else-is_tried w ↦ (
        ap length w.lent-is ∙ loop.invariant.0,
        subst (λ (n : ℕ). 9 * n ≤ a.frame.cut) (sym w.known-is) loop.invariant.1,
        rows_passed a.setup.now.program.code a.setup.now.program.lengths a.setup.now.program.class a.frame a.x.now a.lent.now loop.lent c.if-is_tried.lent loop.known c.if-is_tried.known loop.b loop.invariant.2
            (λ d. sym (c.is_tried.ensures a.setup.now.program.code a.setup.now.program.lengths d.threads d.groups a.x.now.place d.program d.prefix d.stands.reached refl refl) ∙ w.if-is_tried.false) w.lent-is w.known-is,
      )
    ]

pub rows_behind-sweep-requires : goal.rows_behind-sweep-requires
rows_behind-sweep-requires t c = let n = c.loop-b.invariant.0 in let h = c.requires.3 in (search rules, omega (arith, c.requires.5, n))

-- all are gathered: the key is marked
pub rows_behind-returns : goal.rows_behind-returns
unfolding fails
rows_behind-returns t c =
    let a = c.args in
    let loop = c.loop-b in
    let sweep = c.sweep in record {
      words = sweep.ensures.kept.0 ∙ loop.invariant.0;
      within = loop.invariant.1;
      rows = λ d.
          let at = d.stands in
          let p = d.program in
          let v = d.prefix in
          let going = sym (c.is_over.ensures a.setup.now.program.code a.setup.now.program.lengths a.setup.now.program.class d.threads d.groups a.x.now.place p v at.reached refl) ∙ c.if-is_over.false in
          marked_rows a.setup.now.program.code a.setup.now.program.lengths a.setup.now.program.class a.frame a.x.now d going a.lent.now loop.lent _ _ loop.known
          (c.outcome_key-k.ensures a.setup.now.program.code d.threads d.groups a.frame.width p v at c.requires.2 (d.wide v (end_of p v) (refl, at.reached.allowed)) c.requires.3
          (c.some_failed-failed.ensures ∙ fails_by_lem at.reached.holds.core)) sweep.ensures.kept sweep.ensures.honest
          (rows_over a.setup.now.program.code a.setup.now.program.lengths a.setup.now.program.class a.frame a.x.now a.lent.now loop.lent loop.known loop.b c.loop-b-test.false loop.invariant.2 d going);
    }

-- ---- rows_with
pub rows_with-stepped-y-requires : goal.rows_with-stepped-y-requires
rows_with-stepped-y-requires t c =
    let e = c.requires.0 in
    (e.threads, e.groups, e.program, e.prefix, e.stands, tried_enabled e.program e.prefix c.args.b (c.requires.6 e))

pub rows_with-some_asleep-requires : goal.rows_with-some_asleep-requires
rows_with-some_asleep-requires t c =
    let a = c.args in
    let e = c.requires.0 in
    let next = c.stepped-y.ensures e.threads e.groups e.program e.prefix e.stands (tried_enabled e.program e.prefix a.b (c.requires.6 e)) in
    ((a.setup.now.program.class, e.threads, e.groups, e.program, e.prefix ++ (a.b ∷ []), next.reached), c.requires.1)

-- some byte is asleep for good
pub rows_with-returns-then-some_asleep : goal.rows_with-returns-then-some_asleep
rows_with-returns-then-some_asleep t c =
    let a = c.args in
    record {
      words = refl;
      within = c.requires.4;
      rows = λ d.
          let is = c.requires.6 d in
          let next = c.stepped-y.ensures d.threads d.groups d.program d.prefix d.stands (tried_enabled d.program d.prefix a.b is) in
          asleep_rows a.setup.now.program.code a.setup.now.program.lengths a.setup.now.program.class a.frame a.x.now d a.b is
          (sym (c.some_asleep.ensures a.setup.now.program.class d.threads d.groups d.program (d.prefix ++ (a.b ∷ [])) next.reached) ∙ c.if-some_asleep.true) a.lent.now;
    }

pub rows_with-rows_behind-requires : goal.rows_with-rows_behind-requires
rows_with-rows_behind-requires t c =
    let a = c.args in
    let e = c.requires.0 in
    let may = tried_enabled e.program e.prefix a.b (c.requires.6 e) in
    let next = c.stepped-y.ensures e.threads e.groups e.program e.prefix e.stands may in
    let less = step_less a.setup.now.program.code a.setup.now.program.lengths a.setup.now.program.class e.threads e.groups a.x.now e.program e.prefix e.stands a.b may c.stepped-y.result next in
    (omega (arith, c.decreases, less), (next_position a.setup.now.program.code a.setup.now.program.lengths a.setup.now.program.class a.frame.width a.x.now c.stepped-y.result a.b e next, c.requires.1, c.requires.2, c.requires.3, c.requires.4, c.requires.5))

pub rows_with-returns : goal.rows_with-returns
rows_with-returns t c =
    let a = c.args in
    let y = c.stepped-y in
    let behind = c.rows_behind in record {
      words = behind.ensures.words;
      within = behind.ensures.within;
      rows = rows_if behind.result behind.ensures.rows (λ n all d.
          let is = c.requires.6 d in
          let may = tried_enabled d.program d.prefix a.b is in
          let next = y.ensures d.threads d.groups d.program d.prefix d.stands may in
          awake_rows a.setup.now.program.code a.setup.now.program.lengths a.setup.now.program.class a.frame a.x.now d a.b is
          (sym (c.some_asleep.ensures a.setup.now.program.class d.threads d.groups d.program (d.prefix ++ (a.b ∷ [])) next.reached) ∙ c.if-some_asleep.false)
          y.result.place.steps (one_more a.setup.now.program.code a.setup.now.program.lengths a.setup.now.program.class d.threads d.groups a.x.now d.program d.prefix d.stands a.b may y.result next)
          a.lent.now _ n (all (next_position a.setup.now.program.code a.setup.now.program.lengths a.setup.now.program.class a.frame.width a.x.now y.result a.b d next)));
    }

use Rattle.std.proofs.Common.{refl, sym, ap, ◌∙◌, [], ◌∷◌, ◌++◌, arith, length}
use Rattle.machine.proofs.HeldAsking.{fails_by_lem}
use Rattle.spec_schedules.specs.Lists.{head_of}
use Rattle.spec_tso.specs.State.{fails}
use Rattle.spec_tso.specs.Graph.{end_of}
use Rattle.tso_walk.proofs.TriedBytes.{tried_enabled}
use Rattle.tso_walk.proofs.ReachedEnd.{reached_most}
use Rattle.tso_states.proofs.NextSpot.{admitted, has_room, one_more, step_less}
use Rattle.tso_states.proofs.Numbered.{next_position}
use Rattle.tso_states.proofs.FirstFound.{asleep_first, awake_first, ended_first, passed, marked, seeks_start, turn_found, turn_none, turn_passed, seeks_over}
use Rattle.tso_states.proofs.seeking.+first_behind_first_turns_first_with.Goals.{first_turns-then-is_tried+in_default, first_turns-else-is_tried}
use Rattle.tso_states.proofs.seeking.+first_behind_first_turns_first_with.Goals as goal

-- ---- first_behind
pub first_behind-steps_if-requires : goal.first_behind-steps_if-requires
first_behind-steps_if-requires t c =
    let a = c.args in
    let e = c.requires.0 in
    reached_most a.setup.now.program.code a.setup.now.program.lengths a.setup.now.program.class e.threads e.groups a.x.now.place e.program e.prefix e.stands.reached

pub first_behind-returns-then-is_over-clause-first : goal.first_behind-returns-then-is_over-clause-first
unfolding fails
first_behind-returns-then-is_over-clause-first t c =
    let a = c.args in
    λ d ok. (
      c.steps_if.ensures.found
          ∙ ended_first d.program a.x.now.place.steps d.prefix (sym (c.is_over.ensures a.setup.now.program.code a.setup.now.program.lengths a.setup.now.program.class d.threads d.groups a.x.now.place d.program d.prefix d.stands.reached refl) ∙ c.if-is_over.true) _
          (c.some_failed-failed.ensures ∙ fails_by_lem d.stands.reached.holds.core) _ d.stands.reached.schedule,
      ok,
    )

-- a marked key
pub first_behind-returns-then-is_marked-clause-first : goal.first_behind-returns-then-is_marked-clause-first
unfolding fails
first_behind-returns-then-is_marked-clause-first t c =
    let a = c.args in
    λ d ok.
    let at = d.stands in
    let p = d.program in
    let v = d.prefix in (
      passed p (admitted a.setup.now.program.code a.setup.now.program.lengths a.setup.now.program.class d.threads d.groups a.x.now p v at) a.shape.width a.shape.slots d.wide v at.reached.allowed a.x.now.place.steps at.reached.counted
          (sym (c.some_failed-failed.ensures ∙ fails_by_lem at.reached.holds.core) ∙ c.if-failed.false) a.table.now _
          (c.key-k.ensures a.setup.now.program.code d.threads d.groups a.shape.width p v at c.requires.2 (d.wide v (end_of p v) (refl, at.reached.allowed)) c.requires.3) ok _ refl (c.is_marked.ensures c.if-is_marked.true),
      ok,
    )

-- none: the key is marked
pub first_behind-returns-clause-first : goal.first_behind-returns-clause-first
unfolding fails
first_behind-returns-clause-first t c =
    let a = c.args in
    λ d ok.
    let at = d.stands in
    let p = d.program in
    let v = d.prefix in
    let r = c.in_default.ensures.first d ok in (
      r.0,
      marked p (admitted a.setup.now.program.code a.setup.now.program.lengths a.setup.now.program.class d.threads d.groups a.x.now p v at) a.shape.width a.shape.slots d.wide v at.reached.allowed a.x.now.place.steps at.reached.counted
          (sym (c.some_failed-failed.ensures ∙ fails_by_lem at.reached.holds.core) ∙ c.if-failed.false) _ _ _
          (c.key-k.ensures a.setup.now.program.code d.threads d.groups a.shape.width p v at c.requires.2 (d.wide v (end_of p v) (refl, at.reached.allowed)) c.requires.3) r.0 _ refl
          c.mark.ensures.honest r.1,
    )

-- ---- first_turns
pub first_turns-loop-b-init : goal.first_turns-loop-b-init
first_turns-loop-b-init t c =
    let a = c.args in
    let going = c.requires.4 in (
      refl,
      seeks_start a.setup.now.program.code a.setup.now.program.lengths a.setup.now.program.class a.shape.width a.shape.slots a.x.now a.table.now going
          (λ d. has_room a.setup.now.program.code a.setup.now.program.lengths a.setup.now.program.class d.threads d.groups a.x.now d.program d.prefix d.stands (going d)),
    )

-- found with b
pub first_turns-returns-in-Some-clause-first : goal.first_turns-returns-in-Some-clause-first
first_turns-returns-in-Some-clause-first t c =
    let a = c.args in
    let loop = c.loop-b in
    turn_found a.setup.now.program.code a.setup.now.program.lengths a.setup.now.program.class a.shape.width a.shape.slots a.x.now a.table.now loop.table _ loop.b c.loop-b-test.true loop.invariant.1 _ c.in-Some.ensures.first

pub first_turns-loop-b-preserved : goal.first_turns-loop-b-preserved
first_turns-loop-b-preserved t c =
    let a = c.args in
    let loop = c.loop-b in
    let in-loop = c.loop-b-test.true in
    elim c.if-is_tried.branch [
      | first_turns-then-is_tried+in_default w ↦ (
        ap length w.table-is ∙ w.first_with.ensures.words.0 ∙ loop.invariant.0,
        turn_none a.setup.now.program.code a.setup.now.program.lengths a.setup.now.program.class a.shape.width a.shape.slots a.x.now a.table.now loop.table _ c.if-is_tried.table loop.b in-loop loop.invariant.1 w.in_default.ensures.first w.table-is,
      )
      | first_turns-else-is_tried w ↦ (
        ap length w.table-is ∙ loop.invariant.0,
        turn_passed a.setup.now.program.code a.setup.now.program.lengths a.setup.now.program.class a.shape.width a.shape.slots a.x.now a.table.now loop.table c.if-is_tried.table loop.b in-loop loop.invariant.1
            (λ d. sym (c.is_tried.ensures a.setup.now.program.code a.setup.now.program.lengths d.threads d.groups a.x.now.place d.program d.prefix d.stands.reached refl refl) ∙ w.if-is_tried.false) w.table-is,
      )
    ]

-- none at all
pub first_turns-returns-clause-first : goal.first_turns-returns-clause-first
first_turns-returns-clause-first t c =
    let a = c.args in
    let loop = c.loop-b in
    seeks_over a.setup.now.program.code a.setup.now.program.lengths a.setup.now.program.class a.shape.width a.shape.slots a.x.now a.table.now loop.table loop.b c.loop-b-test.false loop.invariant.1

-- ---- first_with
pub first_with-stepped-y-requires : goal.first_with-stepped-y-requires
first_with-stepped-y-requires t c =
    let e = c.requires.0 in
    (e.threads, e.groups, e.program, e.prefix, e.stands, tried_enabled e.program e.prefix c.args.b (c.requires.4 e))

pub first_with-some_asleep-requires : goal.first_with-some_asleep-requires
first_with-some_asleep-requires t c =
    let a = c.args in
    let e = c.requires.0 in
    let next = c.stepped-y.ensures e.threads e.groups e.program e.prefix e.stands (tried_enabled e.program e.prefix a.b (c.requires.4 e)) in
    ((a.setup.now.program.class, e.threads, e.groups, e.program, e.prefix ++ (a.b ∷ []), next.reached), c.requires.1)

-- some byte is asleep for good
pub first_with-returns-then-some_asleep-clause-first : goal.first_with-returns-then-some_asleep-clause-first
first_with-returns-then-some_asleep-clause-first t c =
    let a = c.args in
    λ d ok.
    let is = c.requires.4 d in
    let next = c.stepped-y.ensures d.threads d.groups d.program d.prefix d.stands (tried_enabled d.program d.prefix a.b is) in
    (asleep_first d.program a.x.now.place.steps d.prefix a.b is (sym (c.some_asleep.ensures a.setup.now.program.class d.threads d.groups d.program (d.prefix ++ (a.b ∷ [])) next.reached) ∙ c.if-some_asleep.true), ok)

pub first_with-first_behind-requires : goal.first_with-first_behind-requires
first_with-first_behind-requires t c =
    let a = c.args in
    let e = c.requires.0 in
    let may = tried_enabled e.program e.prefix a.b (c.requires.4 e) in
    let next = c.stepped-y.ensures e.threads e.groups e.program e.prefix e.stands may in
    let less = step_less a.setup.now.program.code a.setup.now.program.lengths a.setup.now.program.class e.threads e.groups a.x.now e.program e.prefix e.stands a.b may c.stepped-y.result next in
    (omega (arith, c.decreases, less), (next_position a.setup.now.program.code a.setup.now.program.lengths a.setup.now.program.class a.shape.width a.x.now c.stepped-y.result a.b e next, c.requires.1, c.requires.2, c.requires.3))

pub first_with-returns-clause-first : goal.first_with-returns-clause-first
first_with-returns-clause-first t c =
    let a = c.args in
    let y = c.stepped-y in
    λ d ok.
    let is = c.requires.4 d in
    let may = tried_enabled d.program d.prefix a.b is in
    let next = y.ensures d.threads d.groups d.program d.prefix d.stands may in
    let r = c.first_behind.ensures.first (next_position a.setup.now.program.code a.setup.now.program.lengths a.setup.now.program.class a.shape.width a.x.now y.result a.b d next) ok in (
      r.0
          ∙ ap head_of (awake_first d.program a.x.now.place.steps d.prefix a.b is (sym (c.some_asleep.ensures a.setup.now.program.class d.threads d.groups d.program (d.prefix ++ (a.b ∷ [])) next.reached) ∙ c.if-some_asleep.false)
          y.result.place.steps (one_more a.setup.now.program.code a.setup.now.program.lengths a.setup.now.program.class d.threads d.groups a.x.now d.program d.prefix d.stands a.b may y.result next)),
      r.1,
    )

use Rattle.std.proofs.Common.{rules, ◌≤◌, refl, sym, ap, ◌∙◌, [], ◌∷◌, ◌++◌, arith, length, length-take-le}
use Rattle.spec_tso.specs.Graph.{end_of}
use Rattle.states_memory.specs.declared.tally.Tally.{Tally}
use Rattle.tso_walk.proofs.TriedBytes.{tried_enabled}
use Rattle.tso_states.proofs.NextSpot.{admitted, step_less}
use Rattle.tso_states.proofs.Numbered.{next_position, asleep_none, awake_numbers, ended_one, recalled, kept, turns_start, turn_tried, turn_skipped, turns_over}
use Rattle.tso_states.proofs.counting.+behind_turns_visit.Goals.{turns-else-is_tried, turns-then-is_tried}
use Rattle.tso_states.proofs.counting.+behind_turns_visit.Goals as goal

-- ---- behind
pub behind-returns-then-is_over : goal.behind-returns-then-is_over
behind-returns-then-is_over t c =
    let a = c.args in
    record { words = refl; numbers = λ d ok. (ended_one d.program d.prefix (sym (c.is_over.ensures a.setup.now.program.code a.setup.now.program.lengths a.setup.now.program.class d.threads d.groups a.x.now.place d.program d.prefix d.stands.reached refl) ∙ c.if-is_over.true), ok) }

pub behind-turns-requires : goal.behind-turns-requires
behind-turns-requires t c =
    let a = c.args in (
      omega (arith, c.decreases),
      (c.requires.0, c.requires.1, c.requires.2, c.requires.3, λ d. sym (c.is_over.ensures a.setup.now.program.code a.setup.now.program.lengths a.setup.now.program.class d.threads d.groups a.x.now.place d.program d.prefix d.stands.reached refl) ∙ c.if-is_over.false),
    )

pub behind-returns-then-shape-x : goal.behind-returns-then-shape-x
behind-returns-then-shape-x t c = record { words = c.turns.ensures.words; numbers = c.turns.ensures.numbers }

pub behind-key-k-requires : goal.behind-key-k-requires
behind-key-k-requires t c = let e = c.requires.0 in (c.args.setup.now.program.code, e.threads, e.groups, e.program, e.prefix, e.stands)

pub behind-slice_bounds-k-end : goal.behind-slice_bounds-k-end
behind-slice_bounds-k-end t c = let h = c.requires.3 in search rules

pub behind-slice_bounds-recall-end : goal.behind-slice_bounds-recall-end
behind-slice_bounds-recall-end t c =
    let g = c.requires.3 in
    let h : c.args.shape.width ≤ length c.key-k.result = search rules in
    sym (length-take-le c.args.shape.width c.key-k.result h)

-- what the table says
pub behind-returns-in-Some : goal.behind-returns-in-Some
behind-returns-in-Some t c =
    let a = c.args in
    record {
      words = refl;
      numbers = λ d ok.
          let at = d.stands in
          let p = d.program in
          let v = d.prefix in (
            recalled p (admitted a.setup.now.program.code a.setup.now.program.lengths a.setup.now.program.class d.threads d.groups a.x.now p v at) a.shape.width a.shape.slots d.wide v at.reached.allowed a.table.now _
                (c.key-k.ensures a.setup.now.program.code d.threads d.groups a.shape.width p v at c.requires.2 (d.wide v (end_of p v) (refl, at.reached.allowed)) c.requires.3) ok _ _ _ refl c.in-Some.ensures,
            ok,
          );
    }

pub behind-turns-n-requires : goal.behind-turns-n-requires
behind-turns-n-requires t c =
    let a = c.args in (
      omega (arith, c.decreases),
      (c.requires.0, c.requires.1, c.requires.2, c.requires.3, λ d. sym (c.is_over.ensures a.setup.now.program.code a.setup.now.program.lengths a.setup.now.program.class d.threads d.groups a.x.now.place d.program d.prefix d.stands.reached refl) ∙ c.if-is_over.false),
    )

pub behind-slice_bounds-k-end-2 : goal.behind-slice_bounds-k-end-2
behind-slice_bounds-k-end-2 t c = let h = c.requires.3 in search rules

pub behind-slice_bounds-keep-end : goal.behind-slice_bounds-keep-end
behind-slice_bounds-keep-end t c =
    let g = c.requires.3 in
    let h : c.args.shape.width ≤ length c.key-k.result = search rules in
    sym (length-take-le c.args.shape.width c.key-k.result h)

-- what was counted is kept
pub behind-returns : goal.behind-returns
behind-returns t c =
    let a = c.args in
    let n = c.turns-n in record {
      words = c.keep.ensures.words ∙ n.ensures.words;
      numbers = λ d ok.
          let at = d.stands in
          let p = d.program in
          let v = d.prefix in
          let r = n.ensures.numbers d ok in (
            r.0,
            kept p (admitted a.setup.now.program.code a.setup.now.program.lengths a.setup.now.program.class d.threads d.groups a.x.now p v at) a.shape.width a.shape.slots d.wide v at.reached.allowed _ _ _
                (c.key-k.ensures a.setup.now.program.code d.threads d.groups a.shape.width p v at c.requires.2 (d.wide v (end_of p v) (refl, at.reached.allowed)) c.requires.3) n.result.listed n.result.failing r.0 _ refl
                c.keep.ensures.honest r.1,
          );
    }

pub turns-loop-b-init : goal.turns-loop-b-init
turns-loop-b-init t c =
    let a = c.args in
    (refl, omega arith, omega arith, turns_start a.setup.now.program.code a.setup.now.program.lengths a.setup.now.program.class a.shape.width a.shape.slots a.x.now a.table.now c.requires.4)

pub turns-visit-n-requires : goal.turns-visit-n-requires
turns-visit-n-requires t c =
    let a = c.args in (
      omega (arith, c.decreases),
      (c.requires.0, c.requires.1, c.requires.2, c.requires.3, λ d. sym (c.is_tried.ensures a.setup.now.program.code a.setup.now.program.lengths d.threads d.groups a.x.now.place d.program d.prefix d.stands.reached refl refl) ∙ c.if-is_tried.true),
    )

-- with a step that is tried, and with one that is not
pub turns-loop-b-preserved : goal.turns-loop-b-preserved
turns-loop-b-preserved t c =
    let a = c.args in
    let loop = c.loop-b in
    let in-loop = c.loop-b-test.true in
    elim c.if-is_tried.branch [
      | turns-then-is_tried w ↦ let el = ap (λ (s : Tally). s.listed) w.sum-is ∙ w.added-sum.ensures.0 in
          let ef = ap (λ (s : Tally). s.failing) w.sum-is ∙ w.added-sum.ensures.1 in (
            ap length w.table-is ∙ w.table-1.given ∙ loop.invariant.0,
            omega (arith, el),
            omega (arith, ef),
            turn_tried a.setup.now.program.code a.setup.now.program.lengths a.setup.now.program.class a.shape.width a.shape.slots a.x.now a.table.now loop.table _ c.if-is_tried.table loop.sum.listed loop.sum.failing _ _ c.if-is_tried.sum.listed c.if-is_tried.sum.failing loop.b
                in-loop loop.invariant.3 w.visit-n.ensures.numbers w.table-is el ef,
          )
      | turns-else-is_tried w ↦ let el = ap (λ (s : Tally). s.listed) w.sum-is in
          let ef = ap (λ (s : Tally). s.failing) w.sum-is in (
            ap length w.table-is ∙ loop.invariant.0,
            omega (arith, el, loop.invariant.1),
            omega (arith, ef, loop.invariant.2),
            turn_skipped a.setup.now.program.code a.setup.now.program.lengths a.setup.now.program.class a.shape.width a.shape.slots a.x.now a.table.now loop.table c.if-is_tried.table loop.sum.listed loop.sum.failing c.if-is_tried.sum.listed c.if-is_tried.sum.failing loop.b
                in-loop loop.invariant.3 (λ d. sym (c.is_tried.ensures a.setup.now.program.code a.setup.now.program.lengths d.threads d.groups a.x.now.place d.program d.prefix d.stands.reached refl refl) ∙ w.if-is_tried.false) w.table-is el ef,
          )
    ]

pub turns-returns : goal.turns-returns
turns-returns t c =
    let a = c.args in
    let loop = c.loop-b in record { words = loop.invariant.0; numbers = turns_over a.setup.now.program.code a.setup.now.program.lengths a.setup.now.program.class a.shape.width a.shape.slots a.x.now a.table.now loop.table loop.sum.listed loop.sum.failing loop.b c.loop-b-test.false loop.invariant.1 loop.invariant.2 loop.invariant.3 }

-- ---- visit
pub visit-stepped-y-requires : goal.visit-stepped-y-requires
visit-stepped-y-requires t c =
    let e = c.requires.0 in
    (e.threads, e.groups, e.program, e.prefix, e.stands, tried_enabled e.program e.prefix c.args.b (c.requires.4 e))

pub visit-some_asleep-requires : goal.visit-some_asleep-requires
visit-some_asleep-requires t c =
    let a = c.args in
    let e = c.requires.0 in
    let next = c.stepped-y.ensures e.threads e.groups e.program e.prefix e.stands (tried_enabled e.program e.prefix a.b (c.requires.4 e)) in
    ((a.setup.now.program.class, e.threads, e.groups, e.program, e.prefix ++ (a.b ∷ []), next.reached), c.requires.1)

-- some byte is asleep for good
pub visit-returns-then-some_asleep : goal.visit-returns-then-some_asleep
visit-returns-then-some_asleep t c =
    let a = c.args in record {
      words = refl;
      numbers = λ d ok.
          let is = c.requires.4 d in
          let next = c.stepped-y.ensures d.threads d.groups d.program d.prefix d.stands (tried_enabled d.program d.prefix a.b is) in
          (asleep_none d.program d.prefix a.b is (sym (c.some_asleep.ensures a.setup.now.program.class d.threads d.groups d.program (d.prefix ++ (a.b ∷ [])) next.reached) ∙ c.if-some_asleep.true), ok);
    }

pub visit-behind-n-requires : goal.visit-behind-n-requires
visit-behind-n-requires t c =
    let a = c.args in
    let e = c.requires.0 in
    let may = tried_enabled e.program e.prefix a.b (c.requires.4 e) in
    let next = c.stepped-y.ensures e.threads e.groups e.program e.prefix e.stands may in
    let less = step_less a.setup.now.program.code a.setup.now.program.lengths a.setup.now.program.class e.threads e.groups a.x.now e.program e.prefix e.stands a.b may c.stepped-y.result next in
    (omega (arith, c.decreases, less), (next_position a.setup.now.program.code a.setup.now.program.lengths a.setup.now.program.class a.shape.width a.x.now c.stepped-y.result a.b e next, c.requires.1, c.requires.2, c.requires.3))

pub visit-returns : goal.visit-returns
visit-returns t c =
    let a = c.args in
    let y = c.stepped-y in
    let n = c.behind-n in record {
      words = n.ensures.words;
      numbers = λ d ok.
          let is = c.requires.4 d in
          let may = tried_enabled d.program d.prefix a.b is in
          let next = y.ensures d.threads d.groups d.program d.prefix d.stands may in
          let r = n.ensures.numbers (next_position a.setup.now.program.code a.setup.now.program.lengths a.setup.now.program.class a.shape.width a.x.now y.result a.b d next) ok in (
            awake_numbers d.program d.prefix a.b is (sym (c.some_asleep.ensures a.setup.now.program.class d.threads d.groups d.program (d.prefix ++ (a.b ∷ [])) next.reached) ∙ c.if-some_asleep.false) c.is_broken.result
                (c.is_broken.ensures a.setup.now.program.code a.setup.now.program.lengths a.setup.now.program.class d.threads d.groups y.result.place d.program d.prefix next.reached refl may)
                n.result.listed n.result.failing _ _ r.0 c.charged.ensures.0 c.charged.ensures.1,
            r.1,
          );
    }

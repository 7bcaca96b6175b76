use Rattle.std.proofs.Common.{refl, sym, ap, ◌∙◌, [], ◌∷◌, ◌++◌, arith, length}
use Rattle.spec_sc.specs.Graph.{end_of}
use Rattle.spec_sc.proofs.Steps.{enabled_small}
use Rattle.search_place.proofs.ReachedStep.{reached_ended, reached_going}
use Rattle.search_walk.proofs.TriedSteps.{tried_enabled}
use Rattle.search_walk.proofs.WalkLoop.{none_sleeps}
use Rattle.states_memory.specs.declared.tally.Tally.{Tally}
use Rattle.states_walk.proofs.Numbered.{asleep_none, awake_charged, awake_numbers, step_failed, step_less, recalled, kept, turns_start, turn_tried, turn_skipped, turns_over, ended_one}
use Rattle.states_walk.proofs.counting.+behind_summed_visit.Goals.{summed-else-is_tried, summed-then-is_tried}
use Rattle.states_walk.proofs.counting.+behind_summed_visit.Goals as goal

-- ---- behind
pub behind-returns-then-x-eq0 : goal.behind-returns-then-x-eq0
behind-returns-then-x-eq0 t c =
    let a = c.args in record {
      words = refl;
      numbers = λ threads groups p v at wide true-table. (
        ended_one p v (reached_ended a.setup.now.program.code a.setup.now.program.lengths a.setup.now.program.class threads groups a.x.now.place p v at.reached c.if-x-eq0.true),
        true-table,
      );
    }

pub behind-tally_behind-requires : goal.behind-tally_behind-requires
behind-tally_behind-requires t c =
    let e = c.requires.0 in
    ((e.0, e.1, e.2, e.3, e.4.reached), c.requires.1, c.if-x-eq0.false)

-- few steps are left
pub behind-returns-then-shape-x : goal.behind-returns-then-shape-x
behind-returns-then-shape-x t c = record { words = refl; numbers = λ threads groups p v at wide true-table. (c.tally_behind.ensures threads groups p v at.reached, true-table) }

pub behind-key-k-requires : goal.behind-key-k-requires
behind-key-k-requires t c =
    let e = c.requires.0 in
    (c.args.setup.now.program.code, e.0, e.1, e.2, e.3, e.4)

-- what the table says
pub behind-returns-in-Some : goal.behind-returns-in-Some
behind-returns-in-Some t c = let a = c.args in
    record {
      words = refl;
      numbers = λ threads groups p v at wide true-table. (
        recalled p at.reached.loaded.well_formed a.shape.width a.shape.slots wide v at.reached.allowed a.table.now _
            (c.key-k.ensures a.setup.now.program.code threads groups a.shape.width p v at c.requires.2 (wide v (end_of p v) (refl, at.reached.allowed)) c.requires.3) true-table _ _ c.in-Some.ensures,
        true-table,
      );
    }

pub behind-summed-sum-requires : goal.behind-summed-sum-requires
behind-summed-sum-requires t c =
    (omega (arith, c.decreases), (c.requires.0, c.requires.1, c.requires.2, c.requires.3, c.if-x-eq0.false))

pub behind-returns : goal.behind-returns
behind-returns t c =
    let a = c.args in
    let sum = c.summed-sum in record {
      words = c.keep.ensures.words ∙ sum.ensures.words;
      numbers = λ threads groups p v at wide true-table.
          let right = sum.ensures.numbers threads groups p v at wide true-table in (
            right.0,
            kept p at.reached.loaded.well_formed a.shape.width a.shape.slots wide v at.reached.allowed _ _ _
                (c.key-k.ensures a.setup.now.program.code threads groups a.shape.width p v at c.requires.2 (wide v (end_of p v) (refl, at.reached.allowed)) c.requires.3) sum.result.listed sum.result.failing right.0 c.keep.ensures.honest right.1,
          );
    }

pub summed-loop-t-init : goal.summed-loop-t-init
summed-loop-t-init t c =
    let a = c.args in (
      refl,
      omega arith,
      omega arith,
      turns_start a.setup.now.program.code a.setup.now.program.lengths a.setup.now.program.class a.shape.width a.shape.slots a.x.now a.table.now
          (λ threads groups p v at. reached_going a.setup.now.program.code a.setup.now.program.lengths a.setup.now.program.class threads groups a.x.now.place p v at.reached c.requires.4),
    )

pub summed-visit-n-requires : goal.summed-visit-n-requires
summed-visit-n-requires t c =
    let a = c.args in (
      omega (arith, c.decreases),
      (c.requires.0, c.requires.1, c.requires.2, c.requires.3, λ threads groups p v at. sym (c.is_tried.ensures a.setup.now.program.code a.setup.now.program.lengths threads groups a.x.now.place p v at.reached refl refl refl) ∙ c.if-is_tried.true),
    )

-- with a step that is tried, and with one that is not
pub summed-loop-t-preserved : goal.summed-loop-t-preserved
summed-loop-t-preserved t c = let a = c.args in
    let loop = c.loop-t in
    let in-loop = c.loop-t-test.true in
    elim c.if-is_tried.branch [
      | summed-then-is_tried w ↦ let el = ap (λ (s : Tally). s.listed) w.sum-is ∙ w.added-sum.ensures.0 in
          let ef = ap (λ (s : Tally). s.failing) w.sum-is ∙ w.added-sum.ensures.1 in (
            ap length w.table-is ∙ w.table-1.given ∙ loop.invariant.0,
            omega (arith, el),
            omega (arith, ef),
            turn_tried a.setup.now.program.code a.setup.now.program.lengths a.setup.now.program.class a.shape.width a.shape.slots a.x.now a.table.now loop.table _ c.if-is_tried.table loop.sum.listed loop.sum.failing _ _ c.if-is_tried.sum.listed c.if-is_tried.sum.failing loop.t
                in-loop loop.invariant.3 w.visit-n.ensures.numbers w.table-is el ef,
          )
      | summed-else-is_tried w ↦ let el = ap (λ (s : Tally). s.listed) w.sum-is in
          let ef = ap (λ (s : Tally). s.failing) w.sum-is in (
            ap length w.table-is ∙ loop.invariant.0,
            omega (arith, el, loop.invariant.1),
            omega (arith, ef, loop.invariant.2),
            turn_skipped a.setup.now.program.code a.setup.now.program.lengths a.setup.now.program.class a.shape.width a.shape.slots a.x.now a.table.now loop.table c.if-is_tried.table loop.sum.listed loop.sum.failing c.if-is_tried.sum.listed c.if-is_tried.sum.failing loop.t
                in-loop loop.invariant.3 (λ threads groups p v at. sym (c.is_tried.ensures a.setup.now.program.code a.setup.now.program.lengths threads groups a.x.now.place p v at.reached refl refl refl) ∙ w.if-is_tried.false) w.table-is el ef,
          )
    ]

pub summed-returns : goal.summed-returns
summed-returns t c =
    let a = c.args in
    let loop = c.loop-t in record {
      words = loop.invariant.0;
      numbers = λ threads groups p v at. turns_over a.setup.now.program.code a.setup.now.program.lengths a.setup.now.program.class a.shape.width a.shape.slots a.x.now a.table.now loop.table loop.sum.listed loop.sum.failing loop.t c.loop-t-test.false
          loop.invariant.1 loop.invariant.2 loop.invariant.3 (threads, groups, p, v, at);
    }

-- ---- visit
pub visit-advance-requires : goal.visit-advance-requires
visit-advance-requires t c =
    let e = c.requires.0 in
    (c.args.setup.now.program.class, e.0, e.1, e.2, e.3, e.4, tried_enabled e.2 e.3 c.args.t (c.requires.4 e.0 e.1 e.2 e.3 e.4))

pub visit-some_asleep-requires : goal.visit-some_asleep-requires
visit-some_asleep-requires t c =
    let a = c.args in
    let e = c.requires.0 in
    (a.setup.now.program.class, e.0, e.1, c.advance.new.x.place, e.2, e.3 ++ (a.t ∷ []), (c.advance.ensures a.setup.now.program.class e.0 e.1 e.2 e.3 e.4).reached, refl, refl, c.requires.1)

pub visit-returns-then-some_asleep : goal.visit-returns-then-some_asleep
visit-returns-then-some_asleep t c =
    let a = c.args in record {
      words = refl;
      numbers = λ threads groups p v at wide true-table. (
        asleep_none p v a.t (c.requires.4 threads groups p v at)
            (sym (c.some_asleep.ensures a.setup.now.program.class threads groups c.advance.new.x.place p (v ++ (a.t ∷ [])) (c.advance.ensures a.setup.now.program.class threads groups p v at).reached refl refl) ∙ c.if-some_asleep.true),
        true-table,
      );
    }

pub visit-bounds-y-wide : goal.visit-bounds-y-wide
visit-bounds-y-wide t c =
    let e = c.requires.0 in
    omega (arith, enabled_small (end_of e.2 e.3) c.args.t (tried_enabled e.2 e.3 c.args.t (c.requires.4 e.0 e.1 e.2 e.3 e.4)), c.wide.ensures.same)

pub visit-ran_out-end-requires : goal.visit-ran_out-end-requires
visit-ran_out-end-requires t c =
    let a = c.args in
    let e = c.requires.0 in (
      (a.setup.now.program.class, e.0, e.1, c.advance.new.x.place, e.2, e.3 ++ (a.t ∷ []), (c.advance.ensures a.setup.now.program.class e.0 e.1 e.2 e.3 e.4).reached, c.of.ensures.held),
      c.in-Some.ensures.within,
    )

-- one thread is left
pub visit-returns-in-Some : goal.visit-returns-in-Some
visit-returns-in-Some t c = let a = c.args in
    let y = c.advance.new.x in record {
      words = refl;
      numbers = λ threads groups p v at wide true-table.
          let is = c.requires.4 threads groups p v at in
          let next = c.advance.ensures a.setup.now.program.class threads groups p v at in
          let awake = sym (c.some_asleep.ensures a.setup.now.program.class threads groups y.place p (v ++ (a.t ∷ [])) next.reached refl refl) ∙ c.if-some_asleep.false in
          let settled = c.in-Some.ensures.settled a.setup.now.program.code a.setup.now.program.lengths a.setup.now.program.class threads groups y.place p (v ++ (a.t ∷ [])) next.reached refl (none_sleeps p (v ++ (a.t ∷ [])) awake) in
          let w = (c.ran_out-end.ensures.last a.setup.now.program.class threads groups y.place p (v ++ (a.t ∷ [])) next.reached c.of.ensures.held settled).0 in (
            awake_charged p v a.t is awake c.of.result.failed
                (c.of.ensures.failed ∙ step_failed p v a.t a.setup.now.program.code a.setup.now.program.lengths a.setup.now.program.class threads groups y next (tried_enabled p v a.t is) c.wide.result c.wide.ensures.same)
                c.charged.result.listed c.charged.result.failing (c.charged.ensures.0 ∙ w.0, c.charged.ensures.1 ∙ w.1),
            true-table,
          );
    }

pub visit-behind-n-requires : goal.visit-behind-n-requires
visit-behind-n-requires t c =
    let a = c.args in
    let e = c.requires.0 in
    let next = c.advance.ensures a.setup.now.program.class e.0 e.1 e.2 e.3 e.4 in
    let less = step_less e.2 e.3 a.t a.setup.now.program.code a.setup.now.program.lengths a.setup.now.program.class e.0 e.1 c.advance.new.x next (tried_enabled e.2 e.3 a.t (c.requires.4 e.0 e.1 e.2 e.3 e.4)) a.x.now e.4 in
    (omega (arith, c.decreases, less), ((e.0, e.1, e.2, e.3 ++ (a.t ∷ []), next), c.requires.1, c.requires.2, c.requires.3))

pub visit-returns : goal.visit-returns
visit-returns t c =
    let a = c.args in
    let y = c.advance.new.x in record {
      words = c.behind-n.ensures.words;
      numbers = λ threads groups p v at wide true-table.
          let is = c.requires.4 threads groups p v at in
          let next = c.advance.ensures a.setup.now.program.class threads groups p v at in
          let r = c.behind-n.ensures.numbers threads groups p (v ++ (a.t ∷ [])) next wide true-table in (
            awake_numbers p v a.t is (sym (c.some_asleep.ensures a.setup.now.program.class threads groups y.place p (v ++ (a.t ∷ [])) next.reached refl refl) ∙ c.if-some_asleep.false)
                _ (step_failed p v a.t a.setup.now.program.code a.setup.now.program.lengths a.setup.now.program.class threads groups y next (tried_enabled p v a.t is) c.wide.result c.wide.ensures.same)
                c.behind-n.result.listed c.behind-n.result.failing _ _ r.0 c.charged-2.ensures.0 c.charged-2.ensures.1,
            r.1,
          );
    }

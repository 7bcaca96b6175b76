use Rattle.std.proofs.Common.{rules, arith, refl, sym, ◌∙◌, [], ◌∷◌, ◌++◌}
use Rattle.spec_model.specs.Model.{failing}
use Rattle.spec_tso.specs.TotalStoreOrder.{tso}
use Rattle.listing_cursor.specs.Bounds.{bound_at}
use Rattle.listing_cursor.proofs.AddedRows.{adds_none, adds_same}
use Rattle.theory_search.proofs.Searching.{behind_stuck}
use Rattle.theory_tso.specs.Search.{given_up}
use Rattle.tso_walk.proofs.TriedBytes.{tried_enabled}
use Rattle.tso_walk.proofs.ReachedEnd.{reached_most}
use Rattle.tso_walk.proofs.WalkLoop.{visit_asleep, visit_less, visit_on, bound_met, bound_apart, rest_start, iteration_tried, iteration_skipped, rest_over, rest_full}
use Rattle.tso_walk.proofs.walking.+visit_walk.Goals.{walk-then-is_tried, walk-else-is_tried}
use Rattle.tso_walk.proofs.walking.+visit_walk.Goals as goal

pub visit-advanced-next-requires : goal.visit-advanced-next-requires
visit-advanced-next-requires t c =
    let pre = c.requires in
    let e = pre.0 in
    (e.0, e.1, e.2, e.3, e.4, tried_enabled e.2 e.3 c.args.b (pre.5 e.0 e.1 e.2 e.3 e.4))

pub visit-some_asleep-requires : goal.visit-some_asleep-requires
visit-some_asleep-requires t c =
    let pre = c.requires in
    let a = c.args in
    let e = pre.0 in
    let may = tried_enabled e.2 e.3 a.b (pre.5 e.0 e.1 e.2 e.3 e.4) in
    ((a.program.now.class, e.0, e.1, e.2, e.3 ++ (a.b ∷ []), c.advanced-next.ensures e.0 e.1 e.2 e.3 e.4 may), pre.1)

pub visit-returns-then-some_asleep-clause-added : goal.visit-returns-then-some_asleep-clause-added
visit-returns-then-some_asleep-clause-added t c =
    let pre = c.requires in
    let a = c.args in
    λ threads groups p v at.
    let is = pre.5 threads groups p v at in
    adds_none 48 (failing tso p) a.a.room _ a.out.now a.a.rows
    (visit_asleep a.program.now.code a.program.now.lengths a.program.now.class threads groups a.x.now p v at a.a.failures (bound_at a.a.tight a.bound.now a.x.now.steps) a.b is
    (sym (c.some_asleep.ensures a.program.now.class threads groups p (v ++ (a.b ∷ [])) (c.advanced-next.ensures threads groups p v at (tried_enabled p v a.b is))) ∙ c.if-some_asleep.true))

pub visit-walk-requires : goal.visit-walk-requires
visit-walk-requires t c =
    let pre = c.requires in
    let a = c.args in
    let e = pre.0 in
    let is = pre.5 e.0 e.1 e.2 e.3 e.4 in
    let next = c.advanced-next.ensures e.0 e.1 e.2 e.3 e.4 (tried_enabled e.2 e.3 a.b is) in (
      omega (arith, c.decreases, visit_less a.program.now.code a.program.now.lengths a.program.now.class e.0 e.1 a.x.now e.2 e.3 e.4 a.a.failures (bound_at a.a.tight a.bound.now a.x.now.steps) a.b is c.advanced-next.result next pre.4),
      ((e.0, e.1, e.2, e.3 ++ (a.b ∷ []), next), pre.1, pre.2, pre.3),
    )

pub visit-returns-clause-added : goal.visit-returns-clause-added
visit-returns-clause-added t c =
    let pre = c.requires in
    let a = c.args in
    λ threads groups p v at.
    let is = pre.5 threads groups p v at in
    let next = c.advanced-next.ensures threads groups p v at (tried_enabled p v a.b is) in
    adds_same 48 (failing tso p) a.a.room _ _ a.out.now _ a.a.rows _
    (visit_on a.program.now.code a.program.now.lengths a.program.now.class threads groups a.x.now p v at a.a.failures (bound_at a.a.tight a.bound.now a.x.now.steps) a.b is c.advanced-next.result next
    (sym (c.some_asleep.ensures a.program.now.class threads groups p (v ++ (a.b ∷ [])) next) ∙ c.if-some_asleep.false)
    c.stays_tight.result a.bound.now c.stays_tight.ensures)
    (c.walk.ensures.added threads groups p (v ++ (a.b ∷ [])) next)

pub walk-returns-then-a-clause-added : goal.walk-returns-then-a-clause-added
walk-returns-then-a-clause-added t c =
    let a = c.args in
    λ threads groups p v at. rw c.if-a.true (adds_none 48 (failing tso p) a.a.room _ a.out.now a.a.rows
    (bound_met a.a.failures p a.x.now.steps v a.bound.now
    (sym (c.is_over.ensures a.program.now.code a.program.now.lengths a.program.now.class threads groups a.x.now p v at refl) ∙ c.if-is_over.true)))

pub walk-at_end-requires : goal.walk-at_end-requires
walk-at_end-requires t c =
    let pre = c.requires in
    let a = c.args in
    let e = pre.0 in
    (reached_most a.program.now.code a.program.now.lengths a.program.now.class e.0 e.1 a.x.now e.2 e.3 e.4, pre.2, pre.3)

pub walk-returns-then-is_over-clause-added : goal.walk-returns-then-is_over-clause-added
walk-returns-then-is_over-clause-added t c =
    let a = c.args in
    λ threads groups p v at.
    rw c.if-a.false (adds_same 48 (failing tso p) a.a.room _ _ a.out.now _ a.a.rows _ (bound_apart a.a.failures p a.x.now.steps v a.bound.now)
    (c.at_end.ensures.added a.program.now.code a.program.now.lengths a.program.now.class threads groups p v at
    (sym (c.is_over.ensures a.program.now.code a.program.now.lengths a.program.now.class threads groups a.x.now p v at refl) ∙ c.if-is_over.true)))

pub walk-returns-then-x-ge32-clause-added : goal.walk-returns-then-x-ge32-clause-added
walk-returns-then-x-ge32-clause-added t c =
    let a = c.args in
    λ threads groups p v at. adds_none 48 (failing tso p) a.a.room _ a.out.now a.a.rows
    (behind_stuck tso given_up a.a.failures p a.x.now.steps v (bound_at a.a.tight a.bound.now a.x.now.steps)
    (sym (c.is_over.ensures a.program.now.code a.program.now.lengths a.program.now.class threads groups a.x.now p v at refl) ∙ c.if-is_over.false) c.if-x-ge32.true)

pub walk-loop-b-init : goal.walk-loop-b-init
walk-loop-b-init t c =
    let pre = c.requires in
    let a = c.args in (
      pre.2,
      refl,
      rest_start a.program.now.code a.program.now.lengths a.program.now.class a.a.failures a.x.now (bound_at a.a.tight a.bound.now a.x.now.steps) a.out.now a.a.room a.a.rows c.first_byte-b.result
          (λ threads groups p v at. sym (c.is_over.ensures a.program.now.code a.program.now.lengths a.program.now.class threads groups a.x.now p v at refl) ∙ c.if-is_over.false) c.if-x-ge32.false c.first_byte-b.ensures,
    )

pub walk-returns-then-a-n-clause-within : goal.walk-returns-then-a-n-clause-within
walk-returns-then-a-n-clause-within t c = c.loop-b.invariant.0

pub walk-returns-then-a-n-clause-added : goal.walk-returns-then-a-n-clause-added
walk-returns-then-a-n-clause-added t c =
    let a = c.args in
    let loop = c.loop-b in
    rest_full a.program.now.code a.program.now.lengths a.program.now.class a.a.failures a.x.now (bound_at a.a.tight a.bound.now a.x.now.steps) a.out.now a.a.room a.a.rows loop.out loop.n loop.b c.if-a-n.true loop.invariant.2

pub walk-visit-n-requires : goal.walk-visit-n-requires
walk-visit-n-requires t c =
    let pre = c.requires in
    let a = c.args in
    let loop = c.loop-b in (
      omega (arith, c.decreases),
      (pre.0, pre.1, loop.invariant.0, omega (arith, pre.3, loop.invariant.1), c.if-x-ge32.false, λ threads groups p v at. sym (c.is_tried.ensures a.program.now.code a.program.now.lengths threads groups a.x.now p v at refl refl) ∙ c.if-is_tried.true),
    )

-- with a byte that is tried, and with one that is not
pub walk-loop-b-preserved : goal.walk-loop-b-preserved
walk-loop-b-preserved t c =
    let a = c.args in
    let loop = c.loop-b in
    elim c.if-is_tried.branch [
      | walk-then-is_tried w ↦ iteration_tried a.program.now.code a.program.now.lengths a.program.now.class a.a.failures a.x.now (bound_at a.a.tight a.bound.now a.x.now.steps) a.out.now a.a.room a.a.rows loop.out _ c.if-is_tried.out loop.n _ c.if-is_tried.n loop.b c.loop-b-test.true loop.invariant.1 loop.invariant.2
          w.visit-n.ensures.within w.visit-n.auto.out w.visit-n.ensures.added w.out-is w.n-is
      | walk-else-is_tried w ↦ iteration_skipped a.program.now.code a.program.now.lengths a.program.now.class a.a.failures a.x.now (bound_at a.a.tight a.bound.now a.x.now.steps) a.out.now a.a.room a.a.rows loop.out c.if-is_tried.out loop.n c.if-is_tried.n loop.b c.loop-b-test.true loop.invariant.0 loop.invariant.1 loop.invariant.2
          (λ threads groups p v at. sym (c.is_tried.ensures a.program.now.code a.program.now.lengths threads groups a.x.now p v at refl refl) ∙ w.if-is_tried.false) w.out-is w.n-is
    ]

pub walk-returns-clause-within : goal.walk-returns-clause-within
walk-returns-clause-within t c = c.loop-b.invariant.0

pub walk-returns-clause-added : goal.walk-returns-clause-added
walk-returns-clause-added t c =
    let a = c.args in
    let loop = c.loop-b in
    rest_over a.program.now.code a.program.now.lengths a.program.now.class a.a.failures a.x.now (bound_at a.a.tight a.bound.now a.x.now.steps) a.out.now a.a.room a.a.rows loop.out loop.n loop.b c.loop-b-test.false loop.invariant.2

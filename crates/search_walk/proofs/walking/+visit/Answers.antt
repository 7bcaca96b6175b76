use Rattle.std.proofs.Common.{ℕ, ◌≤◌, ◌*◌, ◌≡◌, refl, sym, ap, subst, ◌∙◌, false, [], ◌∷◌, ◌++◌, arith, length}
use Rattle.spec_file.specs.Program.{Program}
use Rattle.spec_schedules.specs.Order.{Schedule}
use Rattle.spec_schedules.specs.System.{ended}
use Rattle.spec_sc.specs.State.{SC}
use Rattle.spec_sc.specs.Graph.{end_of}
use Rattle.machine.proofs.HeldAsking.{fails_by_lem}
use Rattle.spec_model.specs.Model.{failing}
use Rattle.spec_sc.specs.Sequential.{sc}
use Rattle.search_place.specs.Reached.{Reached}
use Rattle.search_place.proofs.ReachedStep.{reached_open}
use Rattle.listing_cursor.specs.Bounds.{bound_at}
use Rattle.listing_cursor.specs.declared.aim.Aim.{Aim}
use Rattle.listing_cursor.proofs.AddedRows.{adds_none}
use Rattle.search_walk.proofs.TriedSteps.{tried_enabled}
use Rattle.search_walk.proofs.WalkLoop.{visit_asleep, visit_less, visit_adds, none_sleeps, as_aimed, rest_start, iteration_tried, iteration_skipped, rest_over, rest_full}
use Rattle.search_walk.proofs.walking.+visit.Goals.{After-step, else-is_tried, then-is_tried}
use Rattle.search_walk.proofs.walking.+visit.Goals as goal

-- wherever the place before the step may be reached, that behind it is
reached : (m : ℕ) (c : After-step m) (count groups : ℕ) (p : Program) (v : Schedule)
    → Reached c.args.program.now.code c.args.program.now.lengths c.args.program.now.class count groups c.args.x p v
    → Reached c.args.program.now.code c.args.program.now.lengths c.args.program.now.class count groups c.step.new.x p (v ++ (c.args.t ∷ []))
reached m c count groups p v at = (c.step.ensures c.args.program.now.class count groups p v at).0

pub step-requires : goal.step-requires
step-requires t c =
    let a = c.args in
    let q = c.requires.0 in
    (a.program.now.class, q.0, q.1, q.2, q.3, q.4, tried_enabled q.2 q.3 a.t (c.requires.4 q.0 q.1 q.2 q.3 q.4))

pub some_asleep-requires : goal.some_asleep-requires
some_asleep-requires t c =
    let a = c.args in
    let q = c.requires.0 in
    let s = (goal.at.some_asleep-requires t c).After-step in
    (a.program.now.class, q.0, q.1, c.step.new.x, q.2, q.3 ++ (a.t ∷ []), reached t s q.0 q.1 q.2 q.3 q.4, refl, refl, c.requires.1)

pub returns-then-some_asleep : goal.returns-then-some_asleep
returns-then-some_asleep t c =
    let a = c.args in
    let s = (goal.at.returns-then-some_asleep t c).After-step in record {
      within = c.requires.2;
      added = λ count groups p v at.
          let asleep = c.some_asleep.ensures a.program.now.class count groups c.step.new.x p (v ++ (a.t ∷ [])) (reached t s count groups p v at) refl refl in
          adds_none 24 (failing sc p) a.a.room _ a.out.now a.a.rows
          (visit_asleep a.program.now.code a.program.now.lengths a.program.now.class count groups a.x p v at a.a.failures (bound_at a.a.tight a.bound.now a.x.steps) a.t (c.requires.4 count groups p v at)
          (sym asleep ∙ c.if-some_asleep.true));
    }

-- ---- where nothing branches any more
pub run_out-requires : goal.run_out-requires
run_out-requires t c =
    let a = c.args in
    let q = c.requires.0 in
    let aim = c.aim_behind-b.ensures in
    let s = (goal.at.run_out-requires t c).After-step in (
      (
        a.program.now.class,
        q.0,
        q.1,
        c.step.new.x,
        q.2,
        q.3 ++ (a.t ∷ []),
        reached t s q.0 q.1 q.2 q.3 q.4,
        c.of-r.ensures.held,
      ),
      c.in-Some.ensures.within,
      omega (arith, c.requires.2, aim.1, aim.2),
      subst (λ (k : ℕ). k * 26 ≤ length a.out.now) (sym aim.1) c.requires.3,
    )

pub returns-in-Some : goal.returns-in-Some
returns-in-Some t c =
    let a = c.args in
    let aim = c.aim_behind-b in
    let run = c.run_out in
    let s = (goal.at.returns-in-Some t c).After-step in record {
      within = omega (arith, run.ensures.within, aim.ensures.1);
      added = λ count groups p v at.
          let to = reached t s count groups p v at in
          let wake = sym (c.some_asleep.ensures a.program.now.class count groups c.step.new.x p (v ++ (a.t ∷ [])) to refl refl) ∙ c.if-some_asleep.false in
          visit_adds a.program.now.code a.program.now.lengths a.program.now.class count groups a.x p v at a.a.failures (bound_at a.a.tight a.bound.now a.x.steps) a.t (c.requires.4 count groups p v at) c.step.new.x to
          wake a.a.room a.a.rows aim.result a.bound.now aim.ensures.0 aim.ensures.1 aim.ensures.2 aim.ensures.3 a.out.now _ _
          (run.ensures.added a.program.now.class count groups c.step.new.x p (v ++ (a.t ∷ [])) a.bound.now to
          c.of-r.ensures.held
          (c.of-r.ensures.failed ∙ c.some_failed.ensures ∙ fails_by_lem to.holds)
          (c.in-Some.ensures.settled a.program.now.code a.program.now.lengths a.program.now.class count groups c.step.new.x p (v ++ (a.t ∷ [])) to refl (none_sleeps p (v ++ (a.t ∷ [])) wake)));
    }

-- ---- the next threads
pub loop-z-init : goal.loop-z-init
loop-z-init t c =
    let a = c.args in
    let q = c.requires.0 in
    let aim = c.aim_behind-b in
    let s = (goal.at.loop-z-init t c).After-step in
    let going : (count groups : ℕ) (p : Program) (v : Schedule) → Reached a.program.now.code a.program.now.lengths a.program.now.class count groups c.step.new.x p v → ended SC (end_of p v) ≡ false =
    λ count groups p v to. c.in_default.ensures.settled a.program.now.code a.program.now.lengths a.program.now.class count groups c.step.new.x p v to refl in
    let to = reached t s q.0 q.1 q.2 q.3 q.4 in (
      refl,
      refl,
      refl,
      omega (arith, c.requires.2, aim.ensures.1, aim.ensures.2),
      refl,
      rest_start a.program.now.code a.program.now.lengths a.program.now.class aim.result.failures c.step.new.x (bound_at aim.result.tight a.bound.now c.step.new.x.steps) a.out.now aim.result.room aim.result.rows c.first_byte-z.result
          going (reached_open a.program.now.code a.program.now.lengths a.program.now.class q.0 q.1 c.step.new.x q.2 (q.3 ++ (a.t ∷ [])) to (going q.0 q.1 q.2 (q.3 ++ (a.t ∷ [])) to)) c.first_byte-z.ensures,
    )

pub returns-then-b : goal.returns-then-b
returns-then-b t c =
    let a = c.args in
    let aim = c.aim_behind-b in
    let loop = c.loop-z in
    let s = (goal.at.returns-then-b t c).After-step in record {
      within = omega (arith, loop.invariant.3, aim.ensures.1);
      added = λ count groups p v at.
          let to = reached t s count groups p v at in
          let wake = sym (c.some_asleep.ensures a.program.now.class count groups c.step.new.x p (v ++ (a.t ∷ [])) to refl refl) ∙ c.if-some_asleep.false in
          visit_adds a.program.now.code a.program.now.lengths a.program.now.class count groups a.x p v at a.a.failures (bound_at a.a.tight a.bound.now a.x.steps) a.t (c.requires.4 count groups p v at) c.step.new.x to
          wake a.a.room a.a.rows aim.result a.bound.now aim.ensures.0 aim.ensures.1 aim.ensures.2 aim.ensures.3 a.out.now loop.out loop.b.rows
          (rest_full a.program.now.code a.program.now.lengths a.program.now.class aim.result.failures c.step.new.x (bound_at aim.result.tight a.bound.now c.step.new.x.steps) a.out.now aim.result.room aim.result.rows loop.out loop.b.rows loop.z
          (omega (arith, c.if-b.true, loop.invariant.2)) loop.invariant.5 count groups p (v ++ (a.t ∷ [])) to);
    }

pub visit-requires : goal.visit-requires
visit-requires t c =
    let a = c.args in
    let q = c.requires.0 in
    let loop = c.loop-z in
    let aim = c.aim_behind-b in
    let s = (goal.at.visit-requires t c).After-step in
    let to = reached t s q.0 q.1 q.2 q.3 q.4 in (
      omega (arith, c.decreases, visit_less a.program.now.code a.program.now.lengths a.program.now.class q.0 q.1 a.x q.2 q.3 q.4 a.a.failures (bound_at a.a.tight a.bound.now a.x.steps) a.t (c.requires.4 q.0 q.1 q.2 q.3 q.4) c.step.new.x to),
      (
        (q.0, q.1, q.2, q.3 ++ (a.t ∷ []), to),
        c.requires.1,
        omega (arith, loop.invariant.3, loop.invariant.2),
        omega (arith, c.requires.3, loop.invariant.4, loop.invariant.2, aim.ensures.1),
        λ count groups p v at. sym (c.is_tried.ensures a.program.now.code a.program.now.lengths count groups c.step.new.x p v at refl refl refl) ∙ c.if-is_tried.true,
      ),
    )

pub loop-z-preserved : goal.loop-z-preserved
loop-z-preserved t c =
    let a = c.args in
    let aim = c.aim_behind-b in
    let loop = c.loop-z in
    let in-loop = c.loop-z-test.true in
    let y = c.step.new.x in
    let o = bound_at aim.result.tight a.bound.now c.step.new.x.steps in
    elim c.if-is_tried.branch [
      | then-is_tried w ↦ let more = iteration_tried a.program.now.code a.program.now.lengths a.program.now.class aim.result.failures y o a.out.now aim.result.room aim.result.rows loop.out _ c.if-is_tried.out loop.b.rows _ c.if-is_tried.b.rows loop.z in-loop loop.invariant.4 loop.invariant.5
          (omega (arith, w.visit.ensures.within, loop.invariant.2)) w.visit.auto.out (λ count groups p v at. as_aimed p loop.b aim.result _ _ _ _ _ _ _ _ loop.invariant.0 loop.invariant.1 loop.invariant.2 (w.visit.ensures.added count groups p v at)) w.out-is (ap (λ (b : Aim). b.rows) w.b-is) in
          (ap (λ (b : Aim). b.failures) w.b-is ∙ loop.invariant.0, ap (λ (b : Aim). b.tight) w.b-is ∙ loop.invariant.1, ap (λ (b : Aim). b.room) w.b-is ∙ loop.invariant.2, more.0, more.1, more.2)
      | else-is_tried w ↦ let more = iteration_skipped a.program.now.code a.program.now.lengths a.program.now.class aim.result.failures y o a.out.now aim.result.room aim.result.rows loop.out c.if-is_tried.out loop.b.rows c.if-is_tried.b.rows loop.z in-loop loop.invariant.3 loop.invariant.4 loop.invariant.5
          (λ count groups p v at. sym (c.is_tried.ensures a.program.now.code a.program.now.lengths count groups y p v at refl refl refl) ∙ w.if-is_tried.false) w.out-is (ap (λ (b : Aim). b.rows) w.b-is) in
          (ap (λ (b : Aim). b.failures) w.b-is ∙ loop.invariant.0, ap (λ (b : Aim). b.tight) w.b-is ∙ loop.invariant.1, ap (λ (b : Aim). b.room) w.b-is ∙ loop.invariant.2, more.0, more.1, more.2)
    ]

pub returns : goal.returns
returns t c =
    let a = c.args in
    let aim = c.aim_behind-b in
    let loop = c.loop-z in
    let s = (goal.at.returns t c).After-step in record {
      within = omega (arith, loop.invariant.3, aim.ensures.1);
      added = λ count groups p v at.
          let to = reached t s count groups p v at in
          let wake = sym (c.some_asleep.ensures a.program.now.class count groups c.step.new.x p (v ++ (a.t ∷ [])) to refl refl) ∙ c.if-some_asleep.false in
          visit_adds a.program.now.code a.program.now.lengths a.program.now.class count groups a.x p v at a.a.failures (bound_at a.a.tight a.bound.now a.x.steps) a.t (c.requires.4 count groups p v at) c.step.new.x to
          wake a.a.room a.a.rows aim.result a.bound.now aim.ensures.0 aim.ensures.1 aim.ensures.2 aim.ensures.3 a.out.now loop.out loop.b.rows
          (rest_over a.program.now.code a.program.now.lengths a.program.now.class aim.result.failures c.step.new.x (bound_at aim.result.tight a.bound.now c.step.new.x.steps) a.out.now aim.result.room aim.result.rows loop.out loop.b.rows loop.z
          c.loop-z-test.false loop.invariant.5 count groups p (v ++ (a.t ∷ [])) to);
    }

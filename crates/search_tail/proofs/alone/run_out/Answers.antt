use Rattle.std.proofs.Common.{rules, ℕ, ◌≡◌, ◌||◌, ◌<◌, ◌≤◌, refl, sym, subst, ◌∙◌, arith, get_or, length-set}
use Rattle.spec_model.specs.Model.{failing}
use Rattle.spec_sc.specs.Sequential.{sc}
use Rattle.spec_calls.specs.Rows.{row_of}
use Rattle.listing_cursor.proofs.AddedRows.{adds_none, adds_full, adds_one}
use Rattle.search_tail.specs.Runner.{Settled}
use Rattle.search_tail.proofs.RunOut.{Running, running_start, running_most, running_ready, running_room, running_row, running_step, run_failing, run_found, run_passed, settled_tight, found_apart}
use Rattle.search_tail.proofs.alone.run_out.Goals.{At-loop-k, In-loop-k, After-is_meant, then-a-via-then-a, then-a-via-else-a+then-a-rows, then-k, else-k}
use Rattle.search_tail.proofs.alone.run_out.Goals as goal

-- ---- on the way
running : (c : At-loop-k) → let q = c.requires.0 in Running c.args.program.now.code c.args.program.now.lengths q.0 q.1 q.2 q.3 q.4 q.5 c.args.t c.loop-k.k
running c = let q = c.requires.0 in c.loop-k.invariant.3 q.0 q.1 q.2 q.3 q.4 q.5 q.6 q.7

left : (c : In-loop-k) → c.loop-k.k.thread.at < get_or c.args.program.now.lengths c.args.t 0
left c = subst (λ (i : ℕ). c.loop-k.k.thread.at < get_or c.args.program.now.lengths i 0) c.wide.ensures.same c.loop-k-test.true

pub returns-then-a-clause-added : goal.returns-then-a-clause-added
returns-then-a-clause-added c =
    let a = c.args in
    λ class threads groups x p v bound at of before s. elim c.then-a.branch [
      | then-a-via-then-a w ↦ adds_none 24 (failing sc p) a.a.room _ a.out.now a.a.rows (settled_tight a.a.failures p x.steps v bound a.a.tight a.t s w.if-a.true)
      | then-a-via-else-a+then-a-rows w ↦ adds_full 24 (failing sc p) a.a.room _ a.out.now a.a.rows w.if-a-rows.true
    ]

pub loop-k-init : goal.loop-k-init
loop-k-init c =
    let a = c.args in
    let q = c.requires.0 in
    let start = running_start a.program.now.code a.program.now.lengths q.0 q.1 q.2 q.3 q.4 q.5 a.t a.r q.6 q.7 in
    (search rules, running_most a.program.now.code a.program.now.lengths q.0 q.1 q.2 q.3 q.4 q.5 a.t a.r start, refl, λ class threads groups x p v at of. running_start a.program.now.code a.program.now.lengths class threads groups x p v a.t a.r at of)

pub lean_step-m-requires : goal.lean_step-m-requires
lean_step-m-requires c =
    let a = c.args in
    let q = c.requires.0 in
    let w = goal.at.lean_step-m-requires c in
    running_ready a.program.now.code a.program.now.lengths q.0 q.1 q.2 q.3 q.4 q.5 a.t c.loop-k.k (running w.At-loop-k) c.requires.1 (left w.In-loop-k)

room : (c : At-loop-k) → c.loop-k.k.thread.at < get_or c.args.program.now.lengths c.args.t 0 → c.loop-k.k.steps < 24
room c h =
    let a = c.args in
    let q = c.requires.0 in
    running_room a.program.now.code a.program.now.lengths q.0 q.1 q.2 q.3 q.4 q.5 a.t c.loop-k.k (running c) c.requires.1 h

pub bounds-k-n : goal.bounds-k-n
bounds-k-n c = let w = goal.at.bounds-k-n c in room w.At-loop-k (left w.In-loop-k)

pub overflow_add-k : goal.overflow_add-k
overflow_add-k c = let w = goal.at.overflow_add-k c in let h = room w.At-loop-k (left w.In-loop-k) in search rules

pub loop-k-smaller : goal.loop-k-smaller
loop-k-smaller c = let w = goal.at.loop-k-smaller c in omega (arith, room w.At-loop-k (left w.In-loop-k))

pub loop-k-preserved : goal.loop-k-preserved
loop-k-preserved c =
    let a = c.args in
    let loop = c.loop-k in
    let step = c.lean_step-m in
    let w = goal.at.loop-k-preserved c in (
      length-set loop.k.schedule loop.k.steps a.t ∙ loop.invariant.0,
      omega (arith, room w.At-loop-k (left w.In-loop-k)),
      loop.invariant.2,
      λ class threads groups x p v at of.
          running_step a.program.now.code a.program.now.lengths class threads groups x p v a.t loop.k (loop.invariant.3 class threads groups x p v at of) c.requires.1
          (left w.In-loop-k) loop.invariant.0 step.result step.ensures,
    )

-- ---- at its end
over : (c : After-is_meant) → get_or c.args.program.now.lengths c.args.t 0 ≤ c.loop-k.k.thread.at
over c = subst (λ (i : ℕ). get_or c.args.program.now.lengths i 0 ≤ c.loop-k.k.thread.at) c.wide.ensures.same c.loop-k-test.false

fails-is : (c : After-is_meant) → c.if-k.f ≡ (c.loop-k.k.thread.failed || c.loop-k.k.failed)
fails-is c = elim c.if-k.branch [ then-k w ↦ search rules | else-k w ↦ search rules ]

pub returns-then-not-is_meant-clause-added : goal.returns-then-not-is_meant-clause-added
returns-then-not-is_meant-clause-added c =
    let a = c.args in
    let loop = c.loop-k in
    let apart = c.if-a.false in
    let w = (goal.at.returns-then-not-is_meant-clause-added c).After-is_meant in
    λ class threads groups x p v bound at of before s.
    adds_none 24 (failing sc p) a.a.room _ a.out.now a.a.rows
    (found_apart a.a.failures p x.steps v bound a.a.tight apart
    ∙ run_passed a.program.now.code a.program.now.lengths class threads groups x p v a.t loop.k (loop.invariant.3 class threads groups x p v at of) c.requires.1 (over w) at
    c.if-k.f (fails-is w) (loop.invariant.2 ∙ before) (subst (Settled p v a.t) apart s) a.a.failures
    (sym c.is_meant.ensures ∙ c.if-not-is_meant.true))

pub returns-clause-added : goal.returns-clause-added
unfolding row_of
returns-clause-added c =
    let a = c.args in
    let loop = c.loop-k in
    let apart = c.if-a.false in
    let w = (goal.at.returns-clause-added c).After-is_meant in
    λ class threads groups x p v bound at of before s.
    let run = loop.invariant.3 class threads groups x p v at of in
    let row = running_row a.program.now.code a.program.now.lengths class threads groups x p v a.t loop.k run in
    let fails = run_failing a.program.now.code a.program.now.lengths class threads groups x p v a.t loop.k run c.requires.1 (over w) at c.if-k.f (fails-is w) (loop.invariant.2 ∙ before) in
    adds_one 24 (failing sc p) a.a.room _ run.prefix a.out.now c.put_row.new.out a.a.rows
    (found_apart a.a.failures p x.steps v bound a.a.tight apart
    ∙ run_found a.program.now.code a.program.now.lengths class threads groups x p v a.t loop.k run c.requires.1 (over w) at
    c.if-k.f (fails-is w) (loop.invariant.2 ∙ before) (subst (Settled p v a.t) apart s) a.a.failures
    (sym c.is_meant.ensures ∙ c.if-not-is_meant.false))
    c.if-a-rows.false (c.put_row.ensures ∙ rw (row, fails))

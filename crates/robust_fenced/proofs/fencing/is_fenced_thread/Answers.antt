use Rattle.std.proofs.Common.{ℕ, ◌≤◌, subst, arith}
use mathlib.Core.Bool.{false≢true}
use Rattle.robust_fenced.proofs.Passing.{left_all, left_none, left_next}
use Rattle.robust_fenced.proofs.fencing.is_fenced_thread.Goals as goal

pub loop-i-init : goal.loop-i-init
loop-i-init c = (omega arith, left_all c.args.code.now c.args.t c.args.n)

pub returns-then-is_early : goal.returns-then-is_early
returns-then-is_early c = λ e. absurd (false≢true e)

pub loop-i-preserved : goal.loop-i-preserved
loop-i-preserved c =
    let loop = c.loop-i in
    let args = c.args in
    let below = c.loop-i-test.true in
    let behind = c.pending_behind-behind.ensures in
    let over = c.over_behind-over.ensures in (
      omega (arith, below),
      left_next args.code.now args.t args.n loop.pending c.pending_behind-behind.result loop.over c.over_behind-over.result loop.i c.requires.0 c.requires.1 below
          (c.is_early.ensures c.if-is_early.false) behind.stores behind.carried behind.kept over.before
          (λ e. subst (λ (k : ℕ). k ≤ c.over_behind-over.result) c.skip_at.ensures (over.skipping e)) loop.invariant.1,
    )

pub returns : goal.returns
returns c =
    let loop = c.loop-i in
    let args = c.args in
    λ e. left_none args.code.now args.t args.n loop.pending loop.over loop.i (omega (arith, c.loop-i-test.false)) loop.invariant.1

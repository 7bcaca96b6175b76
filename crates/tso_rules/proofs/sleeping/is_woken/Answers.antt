use Rattle.std.proofs.Common.{ℕ, arith, ◌≡◌, sym, ◌∙◌, false, not, ◌&&◌, eqb}
use mathlib.Core.Option.{some}
use Rattle.spec_schedules.specs.Lists.{range}
use Rattle.spec_schedules.proofs.Lists.{in_range_lem, any_of}
use Rattle.machine.proofs.HeldAsking.{one_more}
use Rattle.spec_tso.specs.State.{thread_of}
use Rattle.theory_tso.specs.Rules.{wakes}
use Rattle.tso_rules.proofs.Asleep.{any_none}
use Rattle.tso_rules.proofs.sleeping.is_woken.Goals as goal

pub returns-then-wakes : goal.returns-then-wakes
returns-then-wakes c =
    let a = c.args in
    λ code σ left shown small. sym (any_of (λ (d : ℕ). not (eqb d a.a.thread) && wakes (some a.a.writer) a.a.location (thread_of σ d)) (range 0 6) c.loop-u.u (in_range_lem 0 6 c.loop-u.u (omega arith) (omega (arith, c.loop-u-test.true))) (sym (c.wakes.ensures code σ left shown small) ∙ c.if-wakes.true))

pub loop-u-preserved : goal.loop-u-preserved
loop-u-preserved c =
    let a = c.args in (
      omega (arith, c.loop-u-test.true),
      λ code σ left shown small. one_more (λ (d : ℕ). (not (eqb d a.a.thread) && wakes (some a.a.writer) a.a.location (thread_of σ d)) ≡ false) c.loop-u.u (c.loop-u.invariant.1 code σ left shown small) (sym (c.wakes.ensures code σ left shown small) ∙ c.if-wakes.false),
    )

pub returns : goal.returns
returns c =
    let a = c.args in
    λ code σ left shown small. sym (any_none (λ (d : ℕ). not (eqb d a.a.thread) && wakes (some a.a.writer) a.a.location (thread_of σ d)) (λ d h. c.loop-u.invariant.1 code σ left shown small d (omega (arith, h, c.loop-u-test.false))))

use Rattle.std.proofs.Common.{ℕ, ◌≡◌, sym, ◌∙◌, false, ◌&&◌, arith}
use Rattle.spec_schedules.specs.Lists.{range}
use Rattle.spec_schedules.specs.Sets.{has}
use Rattle.spec_schedules.proofs.Lists.{in_range_lem, any_of}
use Rattle.machine.proofs.HeldAsking.{one_more}
use Rattle.spec_tso.specs.State.{byte_for, access}
use Rattle.theory_tso.specs.Rules.{unwoken}
use Rattle.tso_rules.proofs.Asleep.{any_none}
use Rattle.tso_rules.proofs.sleeping.is_some_access.Goals as goal

pub returns-then-is_access_asleep : goal.returns-then-is_access_asleep
returns-then-is_access_asleep c =
    let a = c.args in
    let t = c.loop-t.t in
    λ σ left shown may. sym (any_of (λ (d : ℕ). has a.late d && unwoken σ (byte_for access d)) (range 0 6) t (in_range_lem 0 6 t (omega arith) (omega (arith, c.loop-t-test.true)))
    (sym (c.is_access_asleep.ensures σ left shown (may t c.loop-t-test.true)) ∙ c.if-is_access_asleep.true))

pub loop-t-preserved : goal.loop-t-preserved
loop-t-preserved c =
    let a = c.args in
    let t = c.loop-t.t in (
      omega (arith, c.loop-t-test.true),
      λ σ left shown may. one_more (λ (d : ℕ). (has a.late d && unwoken σ (byte_for access d)) ≡ false) t (c.loop-t.invariant.1 σ left shown may)
          (sym (c.is_access_asleep.ensures σ left shown (may t c.loop-t-test.true)) ∙ c.if-is_access_asleep.false),
    )

pub returns : goal.returns
returns c =
    let a = c.args in
    λ σ left shown may. sym (any_none (λ (d : ℕ). has a.late d && unwoken σ (byte_for access d)) (λ d h. c.loop-t.invariant.1 σ left shown may d (omega (arith, h, c.loop-t-test.false))))

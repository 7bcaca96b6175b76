use Rattle.std.proofs.Common.{ℕ, ◌≡◌, sym, ◌∙◌, false, ◌&&◌, arith}
use Rattle.spec_schedules.specs.Lists.{range}
use Rattle.spec_schedules.specs.Sets.{has}
use Rattle.spec_schedules.proofs.Lists.{in_range_lem, any_of}
use Rattle.machine.proofs.HeldAsking.{one_more}
use Rattle.spec_tso.specs.State.{byte_for, move}
use Rattle.theory_tso.specs.Rules.{unwoken}
use Rattle.tso_rules.proofs.Asleep.{any_none}
use Rattle.tso_rules.proofs.sleeping.is_some_move.Goals as goal

pub returns-then-is_move_asleep : goal.returns-then-is_move_asleep
returns-then-is_move_asleep c =
    let a = c.args in
    let t = c.loop-t.t in
    λ code σ left shown may. sym (any_of (λ (d : ℕ). has a.overdue d && unwoken σ (byte_for move d)) (range 0 6) t (in_range_lem 0 6 t (omega arith) (omega (arith, c.loop-t-test.true)))
    (sym (c.is_move_asleep.ensures code σ left shown (may t c.loop-t-test.true)) ∙ c.if-is_move_asleep.true))

pub loop-t-preserved : goal.loop-t-preserved
loop-t-preserved c =
    let a = c.args in
    let t = c.loop-t.t in (
      omega (arith, c.loop-t-test.true),
      λ code σ left shown may. one_more (λ (d : ℕ). (has a.overdue d && unwoken σ (byte_for move d)) ≡ false) t (c.loop-t.invariant.1 code σ left shown may)
          (sym (c.is_move_asleep.ensures code σ left shown (may t c.loop-t-test.true)) ∙ c.if-is_move_asleep.false),
    )

pub returns : goal.returns
returns c =
    let a = c.args in
    λ code σ left shown may. sym (any_none (λ (d : ℕ). has a.overdue d && unwoken σ (byte_for move d)) (λ d h. c.loop-t.invariant.1 code σ left shown may d (omega (arith, h, c.loop-t-test.false))))

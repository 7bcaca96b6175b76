use Rattle.std.proofs.Common.{rules, ℕ, suc, ◌+◌, ◌-◌, ◌/◌, ◌%◌, ◌<◌, ◌≡◌, ⊎_elim, subst, ◌∙◌, arith, get_or, drop, length-set}
use Rattle.file_rows.specs.Rows.{thread_code}
use Rattle.states_live.proofs.RowRegisters.{row_skips}
use Rattle.states_live.proofs.LiveRows.{From, rows_live, rows_skip, rows_more, live_next, live_far}
use Rattle.states_live.proofs.living.live_masks.Goals as goal

pub loop-row-init : goal.loop-row-init
loop-row-init c = (search rules, λ t i h l n k. absurd (omega arith))

pub loop-row-preserved-then-n-le16 : goal.loop-row-preserved-then-n-le16
loop-row-preserved-then-n-le16 c =
    let a = c.args in
    let k = c.loop-row.row - 1 in
    let below : k < 96 = omega (arith, c.loop-row.auto.row, c.loop-row-test.true) in
    let up : c.loop-row.row ≡ k + 1 = omega (arith, c.loop-row-test.true) in
    let f = subst (λ (j : ℕ). From a.program.now.code a.program.now.lengths j c.loop-row.masks) up c.loop-row.invariant.1 in
    let own = c.if-i-n.true in
    let short = c.if-n-le16.true in
    let is = drop (suc (k % 16)) (thread_code a.program.now.code (k / 16) (get_or a.program.now.lengths (k / 16) 0)) in
    let next = live_next a.program.now.code a.program.now.lengths k below c.loop-row.masks f own short c.mask_at-next.result c.mask_at-next.ensures.0 c.mask_at-next.ensures.1 in
    let far = live_far a.program.now.code a.program.now.lengths k below c.loop-row.masks f own short c.skip_at.result c.mask_at-far.result
    (c.skip_at.ensures ∙ row_skips a.program.now.code k below) c.mask_at-far.ensures.0 c.mask_at-far.ensures.1 in (
      simp length-set c.loop-row.invariant.0,
      rows_more a.program.now.code a.program.now.lengths k below c.loop-row.masks f own short c.live_before.result c.loop-row.invariant.0 (c.live_before.ensures is next far),
    )

pub loop-row-preserved : goal.loop-row-preserved
loop-row-preserved c =
    let a = c.args in
    let k = c.loop-row.row - 1 in
    let below : k < 96 = omega (arith, c.loop-row.auto.row, c.loop-row-test.true) in
    let up : c.loop-row.row ≡ k + 1 = omega (arith, c.loop-row-test.true) in
    let f = subst (λ (j : ℕ). From a.program.now.code a.program.now.lengths j c.loop-row.masks) up c.loop-row.invariant.1 in
    (c.loop-row.invariant.0, rows_skip a.program.now.code a.program.now.lengths k below c.loop-row.masks f (λ h i. ⊎_elim (λ e. omega (arith, e.1, i)) (λ e. omega (arith, e, h)) c.else-i-n.either))

pub returns : goal.returns
returns c =
    let a = c.args in
    rows_live a.program.now.code a.program.now.lengths c.loop-row.masks (subst (λ (j : ℕ). From a.program.now.code a.program.now.lengths j c.loop-row.masks) (omega (arith, c.loop-row-test.false)) c.loop-row.invariant.1)

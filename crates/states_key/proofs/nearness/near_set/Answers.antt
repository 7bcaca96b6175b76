use Rattle.std.proofs.Common.{ℕ, ◌^◌, ◌≡◌, sym, ap, ◌∙◌, arith}
use Rattle.theory_sc.specs.Sets.{set_of}
use Rattle.theory_sc.proofs.Sets.{set_none, set_grown, bound_grown}
use Rattle.theory_sc_key.specs.Ways.{near_by_word}
use Rattle.states_key.specs.Stands.{carried}
use Rattle.states_live.proofs.LiveRows.{addend_cond}
use Rattle.states_key.proofs.NearSets.{set_unlined, within}
use Rattle.states_key.proofs.nearness.near_set.Goals as goal

pub returns-then-class-t-eq0 : goal.returns-then-class-t-eq0
returns-then-class-t-eq0 c =
    let a = c.args in
    (omega arith, λ groups p lines. set_unlined a.class.now groups p lines (carried a.x.now) a.x.now.ways a.t c.if-class-t-eq0.true)

pub loop-u-init : goal.loop-u-init
loop-u-init c =
    let a = c.args in
    (omega arith, λ groups p lines. sym (set_none (near_by_word p (carried a.x.now) a.x.now.ways a.t) 0 (λ u h. absurd (omega arith))))

pub loop-u-preserved : goal.loop-u-preserved
loop-u-preserved c =
    let a = c.args in
    let now = c.loop-u in (
      bound_grown now.u now.set c.choose-set.result c.power.result now.invariant.0 (within c.is_near.result c.power.result c.choose-set.result c.choose-set.ensures) c.power.ensures.0,
      λ groups p lines. set_grown (near_by_word p (carried a.x.now) a.x.now.ways a.t) now.u now.set c.choose-set.result c.power.result c.is_near.result (now.invariant.1 groups p lines)
          (c.is_near.ensures groups p lines ∙ ap (near_by_word p (carried a.x.now) a.x.now.ways a.t) c.wide.ensures.same) c.power.ensures.0 (c.choose-set.ensures ∙ sym (addend_cond c.is_near.result c.power.result)),
    )

pub returns : goal.returns
returns c =
    let a = c.args in
    let now = c.loop-u in
    let e : now.u ≡ 6 = omega (arith, now.auto.u-end, c.loop-u-test.false) in (
      omega (arith, now.invariant.0, ap (λ (k : ℕ). 2 ^ k) e),
      λ groups p lines. now.invariant.1 groups p lines ∙ ap (set_of (near_by_word p (carried a.x.now) a.x.now.ways a.t)) e,
    )

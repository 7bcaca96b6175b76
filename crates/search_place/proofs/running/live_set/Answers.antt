use Rattle.std.proofs.Common.{ℕ, ◌≡◌, sym, ap, ◌∙◌, List, arith, ltb, get_or}
use Rattle.machine_access.specs.declared.thread.ThreadState.{ThreadState}
use Rattle.spec_sc.specs.State.{enabled}
use Rattle.machine.specs.Held.{idle}
use Rattle.machine.proofs.HeldAsking.{enabled_held}
use Rattle.theory_sc.specs.Sets.{set_of}
use Rattle.theory_sc.proofs.Sets.{set_none, set_grown, bound_grown}
use Rattle.search_place.proofs.Bits.{chosen}
use Rattle.search_place.proofs.running.live_set.Goals as goal

pub loop-t-init : goal.loop-t-init
loop-t-init c = (omega arith, omega arith, λ code m σ et held. sym (set_none (enabled σ) 0 (λ u h. absurd (omega arith))))

pub overflow_add-live : goal.overflow_add-live
overflow_add-live c =
    let loop = c.loop-t in
    let power = c.power.ensures in
    let choice = chosen _ c.power.result c.choose-live.result c.choose-live.ensures in
    record { fits = omega (arith, loop.invariant.1, power.0, power.1, choice.1) }

pub loop-t-preserved : goal.loop-t-preserved
loop-t-preserved c =
    let a = c.args in
    let loop = c.loop-t in
    let in-loop = c.loop-t-test.true in
    let wide = c.wide-i in
    let power = c.power in
    let added = c.choose-live.result in
    let choice = chosen _ _ _ c.choose-live.ensures in (
      omega (arith, in-loop),
      bound_grown loop.t loop.live added power.result loop.invariant.1 choice.1 power.ensures.0,
      λ code m σ et held.
          set_grown (enabled σ) loop.t loop.live added power.result (ltb (get_or a.threads wide.result idle).at (get_or a.lengths.now wide.result 0)) (loop.invariant.2 code m σ et held)
          (ap (λ (i : ℕ). ltb (get_or a.threads i idle).at (get_or a.lengths.now i 0)) wide.ensures.same
          ∙ ap (λ (ts : List ThreadState). ltb (get_or ts loop.t idle).at (get_or a.lengths.now loop.t 0)) (sym et)
          ∙ enabled_held code a.lengths.now m σ held loop.t in-loop)
          power.ensures.0 choice.0,
    )

pub returns : goal.returns
returns c =
    let loop = c.loop-t in
    let e : loop.t ≡ 6 = omega (arith, loop.invariant.0, c.loop-t-test.false) in
    λ code m σ et held. loop.invariant.2 code m σ et held ∙ ap (set_of (enabled σ)) e

use Rattle.std.proofs.Common.{rules, ℕ, ◌+◌, ◌-◌, ◌^◌, refl, ap, arith, get_or}
use Rattle.machine.specs.Held.{idle}
use Rattle.states_key.proofs.SixBits.{six_none, six_more, six_room, six_below, six_first}
use Rattle.states_key.proofs.keys.first_word.Goals as goal

pub loop-t-init : goal.loop-t-init
loop-t-init c = (omega arith, six_none (λ u. get_or c.args.lengths.now u 0 - (get_or c.args.threads u idle).at) 6 refl)

pub overflow_mul-word : goal.overflow_mul-word
overflow_mul-word c = let h = six_below c.loop-t.t c.loop-t.word c.loop-t.invariant.0 in search rules

pub loop-t-preserved : goal.loop-t-preserved
loop-t-preserved c =
    let a = c.args in
    let now = c.loop-t in
    let small = c.left.ensures.1 in (
      six_room now.t now.word c.left.result c.loop-t-test.true now.auto.t now.invariant.0 (omega (arith, small)),
      six_more (λ u. get_or a.lengths.now u 0 - (get_or a.threads u idle).at) now.t now.word c.left.result c.loop-t-test.true now.auto.t now.invariant.1 c.left.ensures.0,
    )

pub returns : goal.returns
returns c =
    let a = c.args in
    ap (λ (k : ℕ). 2 ^ 63 + k) (six_first (λ u. get_or a.lengths.now u 0 - (get_or a.threads u idle).at) c.loop-t.t c.loop-t.word a.late c.loop-t.invariant.1 (omega (arith, c.loop-t-test.false)))

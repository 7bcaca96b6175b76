use Rattle.std.proofs.Common.{rules, refl, arith}
use Rattle.theory_sc.specs.ReadWords.{Words}
use Rattle.theory_sc.specs.Sets.{set_of}
use Rattle.theory_sc_key.specs.Ways.{near_by_word}
use Rattle.states_key.specs.Stands.{carried}
use Rattle.states_key.proofs.SixBits.{six_none, six_more, six_room, six_below, six_all}
use Rattle.states_key.proofs.nearness.near_word.Goals as goal

pub loop-t-init : goal.loop-t-init
loop-t-init c =
    let a = c.args in
    let m : Words = carried a.x.now in
    (omega arith, λ groups p lines. six_none (λ u. set_of (near_by_word p m a.x.now.ways u) 6) 6 refl)

pub overflow_mul-word : goal.overflow_mul-word
overflow_mul-word c = let h = six_below c.loop-t.t c.loop-t.word c.loop-t.invariant.0 in search rules

pub overflow_add-word : goal.overflow_add-word
overflow_add-word c = let h = six_below c.loop-t.t c.loop-t.word c.loop-t.invariant.0 in let i = c.near_set.ensures.0 in search rules

pub loop-t-preserved : goal.loop-t-preserved
loop-t-preserved c =
    let a = c.args in
    let now = c.loop-t in
    let m : Words = carried a.x.now in (
      six_room now.t now.word c.near_set.result c.loop-t-test.true now.auto.t now.invariant.0 c.near_set.ensures.0,
      λ groups p lines. six_more (λ u. set_of (near_by_word p m a.x.now.ways u) 6) now.t now.word c.near_set.result c.loop-t-test.true now.auto.t (now.invariant.1 groups p lines)
          (c.near_set.ensures.1 groups p lines),
    )

pub returns : goal.returns
returns c =
    let a = c.args in
    let m : Words = carried a.x.now in
    λ groups p lines. six_all (λ u. set_of (near_by_word p m a.x.now.ways u) 6) c.loop-t.t c.loop-t.word (c.loop-t.invariant.1 groups p lines) (omega (arith, c.loop-t-test.false))

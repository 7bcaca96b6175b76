use Rattle.std.proofs.Common.{rules, ◌≡◌, refl, arith, length}
use Rattle.states_key.proofs.Padding.{words_none, words_more, words_all}
use Rattle.states_key.proofs.keys.packed.Goals as goal

pub loop-i-init : goal.loop-i-init
loop-i-init c =
    let a = c.args in
    let size : length a.values ≡ 32 = search rules in
    words_none a.first a.second a.values size _ refl

pub loop-i-preserved : goal.loop-i-preserved
loop-i-preserved c =
    let a = c.args in
    let now = c.loop-i in
    let size : length a.values ≡ 32 = search rules in
    words_more a.first a.second a.values size now.words now.i c.pair.result now.invariant c.loop-i-test.true c.pair.ensures

pub returns : goal.returns
returns c =
    let a = c.args in
    let now = c.loop-i in
    let size : length a.values ≡ 32 = search rules in
    words_all a.first a.second a.values size now.words now.i now.invariant (omega (arith, now.auto.i-end, c.loop-i-test.false))

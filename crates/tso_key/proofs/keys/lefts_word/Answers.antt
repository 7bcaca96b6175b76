use Rattle.std.proofs.Common.{rules, ◌-◌, ◌^◌, ◌<◌, [], arith, get_or}
use Rattle.machine.specs.Held.{idle}
use Rattle.tso_key.proofs.Digits.{fives_start, fives_more, fives_room, fives_six, fives_alone}
use Rattle.tso_key.proofs.keys.lefts_word.Goals as goal

pub loop-t-init : goal.loop-t-init
loop-t-init c = let a = c.args in (omega arith, fives_start (λ i. get_or a.lengths.now i 0 - (get_or a.threads.now i idle).at), omega arith)

pub overflow_mul-word : goal.overflow_mul-word
overflow_mul-word c = let l = c.loop-t in let b : l.word < 2 ^ 30 = fives_six l.t l.word l.invariant.2 in search rules

pub loop-t-preserved : goal.loop-t-preserved
loop-t-preserved c =
    let a = c.args in
    let l = c.loop-t in
    let t = c.loop-t-test.true in
    let s = c.left in (
      omega (arith, l.invariant.0),
      fives_more (λ i. get_or a.lengths.now i 0 - (get_or a.threads.now i idle).at) [] l.t l.word s.result t l.invariant.0 l.invariant.1 s.ensures.0,
      fives_room 6 l.t l.word s.result t l.invariant.0 l.invariant.2 (omega (arith, s.ensures.1)),
    )

pub returns : goal.returns
returns c =
    let a = c.args in
    let l = c.loop-t in (
      fives_alone (λ i. get_or a.lengths.now i 0 - (get_or a.threads.now i idle).at) l.t l.word (λ h. omega (arith, h, c.loop-t-test.false)) l.invariant.1,
      fives_six l.t l.word l.invariant.2,
    )

use Rattle.std.proofs.Common.{ℕ, ◌-◌, ◌+◌, ◌/◌, ◌≡◌, sym, ap, ◌∙◌, arith}
use Rattle.theory_tso_key.specs.Ways.{becomes}
use Rattle.tso_key.specs.Carried.{last_as}
use Rattle.tso_key.proofs.LedBack.{led_here, led_last, led_off, led_on}
use Rattle.tso_key.proofs.nearness.is_led_back.Goals as goal

pub returns-then-y-word : goal.returns-then-y-word
returns-then-y-word c = let a = c.args in let l = c.loop in led_here (last_as a.last.now) (8 - l.counter) a.word l.y l.w c.if-y-word.true ∙ sym l.invariant

pub returns-then-not-comes_again : goal.returns-then-not-comes_again
returns-then-not-comes_again c =
    let a = c.args in
    let l = c.loop in
    led_off (last_as a.last.now) (8 - l.counter) a.word l.y l.w (λ z. omega (arith, z, c.loop-test.true)) c.if-y-word.false _ c.comes_again.ensures c.if-not-comes_again.true ∙ sym l.invariant

pub loop-preserved : goal.loop-preserved
loop-preserved c =
    let a = c.args in
    let l = c.loop in
    let e : 8 - l.counter - 1 ≡ 8 - (l.counter + 1) = omega arith in
    l.invariant ∙ led_on (last_as a.last.now) (8 - l.counter) a.word l.y l.w (λ z. omega (arith, z, c.loop-test.true)) c.if-y-word.false _ c.comes_again.ensures c.if-not-comes_again.false
    ∙ ap (λ (n : ℕ). becomes (last_as a.last.now) n a.word (l.y / 128) (l.w / 8)) e

pub returns : goal.returns
returns c = let a = c.args in let l = c.loop in led_last (last_as a.last.now) (8 - l.counter) a.word l.y l.w (omega (arith, c.loop-test.false)) ∙ sym l.invariant

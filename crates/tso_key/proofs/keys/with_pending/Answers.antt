use Rattle.std.proofs.Common.{rules, ℕ, ◌+◌, ◌-◌, ◌*◌, ◌^◌, ◌<◌, ◌≤◌, refl, ◌∙◌, arith, get_or}
use Rattle.tso_key.proofs.Digits.{fives_none, fives_more, fives_room, fives_below, fives_all}
use Rattle.tso_key.proofs.keys.with_pending.Goals as goal

pub loop-t-init : goal.loop-t-init
loop-t-init c = let a = c.args in (omega arith, λ l e. e ∙ fives_none (λ i. get_or a.tails.now i 0 - get_or a.heads.now i 0) 6 l refl, omega (arith, c.requires.0))

pub overflow_mul-word : goal.overflow_mul-word
overflow_mul-word c =
    let more : (s : ℕ) → s < 32 → c.loop-t.word * 32 + s < 2 ^ 60 = λ s h.
    let l = c.loop-t in
    let t = c.loop-t-test.true in
    fives_below (l.t - 1) (l.word * 32 + s) (fives_room 12 l.t l.word s t (omega (arith, l.invariant.0)) l.invariant.2 h) in
    let b = more 0 (omega arith) in search rules

pub loop-t-preserved : goal.loop-t-preserved
loop-t-preserved c =
    let ends : let a = c.args in let t = c.loop-t.t - 1 in (get_or a.heads.now t 0 ≤ get_or a.tails.now t 0) × (get_or a.tails.now t 0 ≤ 16) = let l = c.loop-t in c.requires.1 (l.t - 1) (omega (arith, l.invariant.0, c.loop-t-test.true)) in
    let a = c.args in
    let l = c.loop-t in
    let t = c.loop-t-test.true in
    let e = ends in
    let s : ℕ = get_or a.tails.now (l.t - 1) 0 - get_or a.heads.now (l.t - 1) 0 in (
      omega (arith, l.invariant.0),
      λ k q. fives_more (λ j. get_or a.tails.now j 0 - get_or a.heads.now j 0) k l.t l.word s t l.invariant.0 (l.invariant.1 k q) refl,
      fives_room 12 l.t l.word s t (omega (arith, l.invariant.0)) l.invariant.2 (omega (arith, e.0, e.1)),
    )

pub returns : goal.returns
returns c k e =
    let a = c.args in
    let l = c.loop-t in
    fives_all (λ i. get_or a.tails.now i 0 - get_or a.heads.now i 0) l.t k l.word (λ h. omega (arith, h, c.loop-t-test.false)) (l.invariant.1 k e)

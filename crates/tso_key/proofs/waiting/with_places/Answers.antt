use Rattle.std.proofs.Common.{rules, ℕ, ◌+◌, ◌-◌, ◌^◌, ◌<◌, ◌≡◌, ap, subst, ◌∙◌, arith}
use Rattle.tso_machine.specs.Slots.{queue_at}
use Rattle.theory_tso_key.specs.Words.{locations, appended}
use Rattle.tso_key.proofs.Filled.{places_none, places_more, places_room, places_below}
use Rattle.tso_key.proofs.waiting.with_places.Goals as goal

pub loop-i-init : goal.loop-i-init
loop-i-init c =
    let a = c.args in
    let e : a.n ≡ a.n + (a.head - a.head) = omega arith in
    (omega arith, c.requires.0, places_none a.slots.now a.head a.places, subst (λ (k : ℕ). a.places < 8 ^ k) e c.requires.3)

pub overflow_mul-word : goal.overflow_mul-word
overflow_mul-word c =
    let a = c.args in
    let p = c.requires in
    let l = c.loop-i in
    let b : l.word < 2 ^ 48 = places_below (a.n + (l.i - a.head)) l.word (omega (arith, p.0, p.2, l.invariant.1)) l.invariant.3 in
    search rules

pub overflow_add-word : goal.overflow_add-word
overflow_add-word c =
    let a = c.args in
    let p = c.requires in
    let l = c.loop-i in
    let b : l.word < 2 ^ 48 = places_below (a.n + (l.i - a.head)) l.word (omega (arith, p.0, p.2, l.invariant.1)) l.invariant.3 in
    search rules

pub loop-i-preserved : goal.loop-i-preserved
loop-i-preserved c =
    let a = c.args in
    let p = c.requires in
    let l = c.loop-i in
    let t = c.loop-i-test.true in (
      omega (arith, l.invariant.0),
      omega (arith, t),
      places_more a.slots.now a.head l.i l.invariant.0 a.places l.word l.invariant.2,
      places_room a.slots.now a.head l.i l.invariant.0 a.n l.word _ l.invariant.3 (p.4 l.i (omega (arith, t, p.1))),
    )

pub returns : goal.returns
returns c =
    let a = c.args in
    let l = c.loop-i in
    let e : l.i ≡ a.tail = omega (arith, l.invariant.1, c.loop-i-test.false) in
    (l.invariant.2 ∙ ap (λ (k : ℕ). appended 8 a.places (locations (queue_at a.slots.now a.head (k - a.head)))) e, subst (λ (k : ℕ). l.word < 8 ^ (a.n + (k - a.head))) e l.invariant.3)

use Rattle.std.proofs.Common.{rules, ℕ, ◌+◌, ◌-◌, ◌≤◌, ◌≡◌, ap, ◌∙◌, arith, length, get_or}
use Rattle.theory_sc_key.specs.Key.{padded}
use Rattle.theory_tso_key.specs.Words.{join, locations, stored, appended}
use Rattle.tso_key.specs.Carried.{queues_to}
use Rattle.tso_key.proofs.Filled.{join_within, values_start, places_start, count_start, values_queue, places_queue, count_queue, stored_size}
use Rattle.tso_key.proofs.waiting.waiting_of.Goals as goal

pub loop-t-init : goal.loop-t-init
loop-t-init c =
    let a = c.args in
    (omega arith, values_start a.slots.now a.heads.now a.tails.now, places_start a.slots.now a.heads.now a.tails.now, omega arith, count_start a.slots.now a.heads.now a.tails.now)

pub with_places-places-requires : goal.with_places-places-requires
with_places-places-requires c =
    let room : (c.wide-head.result ≤ c.wide-tail.result) × (c.wide-tail.result ≤ 16) × (c.loop-t.n + (c.wide-tail.result - c.wide-head.result) ≤ 16) = let a = c.args in
    let l = c.loop-t in
    let t = c.loop-t-test.true in
    let ends = c.requires.0 l.t t in
    let eh : c.wide-head.result ≡ get_or a.heads.now l.t 0 = c.wide-head.ensures.same in
    let et : c.wide-tail.result ≡ get_or a.tails.now l.t 0 = c.wide-tail.ensures.same in
    let j = join_within a.slots.now a.heads.now a.tails.now l.t t c.requires.1 in
    (omega (arith, ends.0, eh, et), omega (arith, ends.1, et), omega (arith, j, l.invariant.4, eh, et)) in
    let r = room in (r.0, r.1, r.2, c.loop-t.invariant.3, c.requires.2)

pub put_values-requires : goal.put_values-requires
put_values-requires c =
    let room : (c.wide-head.result ≤ c.wide-tail.result) × (c.wide-tail.result ≤ 16) × (c.loop-t.n + (c.wide-tail.result - c.wide-head.result) ≤ 16) = let a = c.args in
    let l = c.loop-t in
    let t = c.loop-t-test.true in
    let ends = c.requires.0 l.t t in
    let eh : c.wide-head.result ≡ get_or a.heads.now l.t 0 = c.wide-head.ensures.same in
    let et : c.wide-tail.result ≡ get_or a.tails.now l.t 0 = c.wide-tail.ensures.same in
    let j = join_within a.slots.now a.heads.now a.tails.now l.t t c.requires.1 in
    (omega (arith, ends.0, eh, et), omega (arith, ends.1, et), omega (arith, j, l.invariant.4, eh, et)) in
    room

pub overflow_add-n : goal.overflow_add-n
overflow_add-n c =
    let room : (c.wide-head.result ≤ c.wide-tail.result) × (c.wide-tail.result ≤ 16) × (c.loop-t.n + (c.wide-tail.result - c.wide-head.result) ≤ 16) = let a = c.args in
    let l = c.loop-t in
    let t = c.loop-t-test.true in
    let ends = c.requires.0 l.t t in
    let eh : c.wide-head.result ≡ get_or a.heads.now l.t 0 = c.wide-head.ensures.same in
    let et : c.wide-tail.result ≡ get_or a.tails.now l.t 0 = c.wide-tail.ensures.same in
    let j = join_within a.slots.now a.heads.now a.tails.now l.t t c.requires.1 in
    (omega (arith, ends.0, eh, et), omega (arith, ends.1, et), omega (arith, j, l.invariant.4, eh, et)) in
    let few : (c.wide-head.result ≤ c.wide-tail.result) × (c.loop-t.n + (c.wide-tail.result - c.wide-head.result) ≤ 16) = let r = room in (r.0, r.2) in
    let r = (few).1 in search rules

pub loop-t-preserved : goal.loop-t-preserved
loop-t-preserved c =
    let a = c.args in
    let l = c.loop-t in
    let h = c.wide-head in
    let k = c.wide-tail in
    let w = c.with_places-places in (
      omega (arith, c.loop-t-test.true),
      values_queue a.slots.now a.heads.now a.tails.now l.t h.result k.result h.ensures.same k.ensures.same _
          (c.put_values.ensures (stored (join (queues_to a.slots.now a.heads.now a.tails.now l.t))) (stored_size a.slots.now a.heads.now a.tails.now l.t h.result k.result h.ensures.same k.ensures.same l.n l.invariant.4) l.invariant.1),
      places_queue a.slots.now a.heads.now a.tails.now l.t h.result k.result h.ensures.same k.ensures.same l.places w.result l.invariant.2 w.ensures.0,
      w.ensures.1,
      count_queue a.slots.now a.heads.now a.tails.now l.t h.result k.result h.ensures.same k.ensures.same l.n l.invariant.4,
    )

pub returns : goal.returns
returns c =
    let a = c.args in
    let l = c.loop-t in
    let e : l.t ≡ 6 = omega (arith, l.invariant.0, c.loop-t-test.false) in (
      l.invariant.1 ∙ ap (λ (k : ℕ). padded 16 (stored (join (queues_to a.slots.now a.heads.now a.tails.now k)))) e,
      l.invariant.2 ∙ ap (λ (k : ℕ). appended 8 0 (locations (join (queues_to a.slots.now a.heads.now a.tails.now k)))) e,
      l.invariant.4 ∙ ap (λ (k : ℕ). length (join (queues_to a.slots.now a.heads.now a.tails.now k))) e,
    )

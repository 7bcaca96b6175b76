use Rattle.std.proofs.Common.{rules, ℕ, ◌≡◌, ◌+◌, ◌-◌, ◌∙◌, sym, ap, arith, List, length, get_or}
use lib.Pointwise.{bytes_decides}
use Rattle.machine.proofs.HeldStart.{short_held, accesses_held}
use Rattle.spec_judge.proofs.Parsed.{read_readable}
use Rattle.spec_judge.proofs.RoundValues.{values}
use Rattle.judge_values.proofs.HeldRoundLoop.{opened_so, six_held}
use Rattle.judge_values.proofs.HeldValues.{values_start, values_more, places_are, places_stay}
use Rattle.judge_values.proofs.valuing.places.Goals as goal

pub accesses_below-accesses-requires : goal.accesses_below-accesses-requires
accesses_below-accesses-requires c =
    let a = c.args in
    (six_held a.program.now.code a.program.now.lengths a.program.now.threads c.requires.0 c.requires.1, short_held a.program.now.code a.program.now.lengths a.program.now.threads c.requires.0 c.requires.1)

pub loop-k-init : goal.loop-k-init
loop-k-init c = (omega arith, λ p text counts g loaded m e T x h. values_start p g x)

pub next_values-ws-requires : goal.next_values-ws-requires
next_values-ws-requires c =
    let a = c.args in
    let eight : length a.program.now.starting ≡ 8 = search rules in
    (six_held a.program.now.code a.program.now.lengths a.program.now.threads c.requires.0 c.requires.1, eight)

pub returns-then-eq : goal.returns-then-eq
returns-then-eq c =
    let a = c.args in
    let l = c.loop-k in
    let r = c.in_round-r.result in
    let ws = c.next_values-ws in
    let same = (bytes_decides ws.result l.vs).0 (sym c.eq.ensures ∙ c.if-eq.true) in
    let few = c.accesses_below-accesses.ensures.count in
    λ p text counts g loaded m e T.
    let all = accesses_held a.program.now.code a.program.now.lengths a.program.now.threads p loaded in
    let six = six_held a.program.now.code a.program.now.lengths a.program.now.threads p loaded in
    let held = c.in_round-r.ensures p loaded (opened_so a.program.now.code a.program.now.lengths p c.started-start.result (c.started-start.ensures.1 p loaded m)) in
    places_stay a.program.now.threads six p l.vs r.places r.left held a.pairs counts a.program.now.starting g (read_readable a.program.now.threads text g e) T m (l.k - 1) (l.invariant.1 p text counts g loaded m e T)
    (omega (arith, c.loop-k-test.true, few, all)) ws.result ws.ensures (λ j h. ap (λ (x : List ℕ). get_or x j 0) same)

pub loop-k-preserved : goal.loop-k-preserved
loop-k-preserved c =
    let a = c.args in
    let l = c.loop-k in
    let r = c.in_round-r.result in
    let ws = c.next_values-ws in (
      omega (arith, c.loop-k-test.true),
      λ p text counts g loaded m e T x h.
          let six = six_held a.program.now.code a.program.now.lengths a.program.now.threads p loaded in
          let held = c.in_round-r.ensures p loaded (opened_so a.program.now.code a.program.now.lengths p c.started-start.result (c.started-start.ensures.1 p loaded m)) in
          let one : l.k - 1 + 1 ≡ l.k + 1 - 1 = omega arith in
          values_more a.program.now.threads six p l.vs r.places r.left held a.pairs counts a.program.now.starting g (read_readable a.program.now.threads text g e) T m (l.k - 1) (l.invariant.1 p text counts g loaded m e T) ws.result ws.ensures x h
          ∙ ap (λ (j : ℕ). values p g j x) one,
    )

pub returns : goal.returns
returns c =
    let a = c.args in
    let l = c.loop-k in
    let r = c.in_round-r-2.result in
    let few = c.accesses_below-accesses.ensures.count in
    λ p text counts g loaded m e T.
    let all = accesses_held a.program.now.code a.program.now.lengths a.program.now.threads p loaded in
    let six = six_held a.program.now.code a.program.now.lengths a.program.now.threads p loaded in
    let held = c.in_round-r-2.ensures p loaded (opened_so a.program.now.code a.program.now.lengths p c.started-start.result (c.started-start.ensures.1 p loaded m)) in
    places_are a.program.now.threads six p l.vs r.places r.left held a.pairs counts a.program.now.starting g (read_readable a.program.now.threads text g e) T m (l.k - 1) (l.invariant.1 p text counts g loaded m e T)
    (omega (arith, l.invariant.0, c.loop-k-test.false, few, all))

use Rattle.std.proofs.Common.{rules, ◌≡◌, ap, sym, ◌∙◌, arith, length-set}
use Rattle.spec_schedules.specs.System.{run}
use Rattle.spec_sc.specs.State.{SC, start}
use Rattle.judge_values.proofs.HeldRoundLoop.{zeros}
use Rattle.judge.specs.declared.making.Made.{Made}
use Rattle.judge.specs.MadeTable.{source_added, event_added, count_added}
use Rattle.judge.proofs.WalkLoop.{walk_start, walk_on, walk_whole, walk_stops, walk_enabled, walk_steps, walk_place, walk_note, walk_more, few_more}
use Rattle.judge.proofs.walking.walked.Goals as goal

pub started-machine-requires : goal.started-machine-requires
started-machine-requires c = (c.requires.0, c.requires.2.loaded)

pub loop-k-init : goal.loop-k-init
loop-k-init c = (
  search rules,
  search rules,
  search rules,
  λ l. let z = zeros 8 l in omega arith,
  λ p g X e. walk_start c.args.program.now.code c.args.program.now.lengths p g c.started-machine.result _ (c.started-machine.ensures.1 p X.loaded (sym c.started-machine.ensures.0 ∙ e)),
)

pub chosen-requires : goal.chosen-requires
chosen-requires c =
    let a = c.args in
    let l = c.loop-k in
    let G = l.invariant.4 c.requires.0 c.requires.1 c.requires.2 (c.started-machine.ensures.0 ∙ c.requires.3) in (
      λ x. let z = l.invariant.3 x in omega (arith, c.loop-k-test.true),
      (c.requires.0, c.requires.1, G.so_far, walk_on a.program.now.code a.program.now.lengths a.program.now.threads a.pairs a.places c.requires.0 c.requires.1 c.requires.2 l.machine l.made.pairs l.made.counts l.schedule l.k G),
    )

pub returns-in_default : goal.returns-in_default
returns-in_default c =
    let a = c.args in
    let l = c.loop-k in
    λ p g X e.
    let G = l.invariant.4 p g X (c.started-machine.ensures.0 ∙ e) in
    let W = walk_on a.program.now.code a.program.now.lengths a.program.now.threads a.pairs a.places p g X l.machine l.made.pairs l.made.counts l.schedule l.k G in
    walk_stops a.program.now.code a.program.now.lengths a.program.now.threads a.pairs a.places p g X l.machine l.made.pairs l.made.counts l.schedule l.k G c.loop-k-test.true
    (rw c.in_default.is at c.chosen.ensures.next p g G.so_far W) (λ x. let z = l.invariant.3 x in omega (arith, c.loop-k-test.true))

pub step-s-requires : goal.step-s-requires
step-s-requires c =
    let a = c.args in
    let l = c.loop-k in
    let p = c.requires.0 in
    let g = c.requires.1 in
    let X = c.requires.2 in
    let G = l.invariant.4 p g X (c.started-machine.ensures.0 ∙ c.requires.3) in
    let W = walk_on a.program.now.code a.program.now.lengths a.program.now.threads a.pairs a.places p g X l.machine l.made.pairs l.made.counts l.schedule l.k G in
    walk_steps a.program.now.code a.program.now.lengths a.program.now.threads a.pairs a.places p g X l.machine l.made.pairs l.made.counts l.schedule l.k G c.loop-k-test.true c.in-Some.t (c.in-Some.ensures.next p g G.so_far W)

pub with_source-requires : goal.with_source-requires
with_source-requires c =
    let a = c.args in
    let l = c.loop-k in
    let p = c.requires.0 in
    let g = c.requires.1 in
    let X = c.requires.2 in
    let left = c.loop-k-test.true in
    let t = c.in-Some.t in
    let G = l.invariant.4 p g X (c.started-machine.ensures.0 ∙ c.requires.3) in
    let W = walk_on a.program.now.code a.program.now.lengths a.program.now.threads a.pairs a.places p g X l.machine l.made.pairs l.made.counts l.schedule l.k G in
    let choice = c.in-Some.ensures.next p g G.so_far W in
    let ok = walk_enabled a.program.now.code a.program.now.lengths a.program.now.threads a.pairs a.places p g X l.machine l.made.pairs l.made.counts l.schedule l.k G left t choice in
    let near = walk_place a.program.now.code a.program.now.lengths a.program.now.threads a.pairs a.places p g X l.machine l.made.pairs l.made.counts l.schedule l.k G left t choice in
    walk_note a.program.now.code a.program.now.lengths a.program.now.threads a.pairs a.places p g X l.machine l.made.pairs l.made.counts l.schedule l.k G left t choice
    c.step-s.result (c.step-s.ensures (run SC (start p) G.so_far) G.holds ok near)

pub with_event-made-requires : goal.with_event-made-requires
with_event-made-requires c =
    let a = c.args in
    let l = c.loop-k in
    let p = c.requires.0 in
    let g = c.requires.1 in
    let X = c.requires.2 in
    let left = c.loop-k-test.true in
    let t = c.in-Some.t in
    let G = l.invariant.4 p g X (c.started-machine.ensures.0 ∙ c.requires.3) in
    let W = walk_on a.program.now.code a.program.now.lengths a.program.now.threads a.pairs a.places p g X l.machine l.made.pairs l.made.counts l.schedule l.k G in
    let choice = c.in-Some.ensures.next p g G.so_far W in
    let ok = walk_enabled a.program.now.code a.program.now.lengths a.program.now.threads a.pairs a.places p g X l.machine l.made.pairs l.made.counts l.schedule l.k G left t choice in
    let near = walk_place a.program.now.code a.program.now.lengths a.program.now.threads a.pairs a.places p g X l.machine l.made.pairs l.made.counts l.schedule l.k G left t choice in (
      walk_note a.program.now.code a.program.now.lengths a.program.now.threads a.pairs a.places p g X l.machine l.made.pairs l.made.counts l.schedule l.k G left t choice
          c.step-s.result (c.step-s.ensures (run SC (start p) G.so_far) G.holds ok near),
      λ x. let z = l.invariant.3 x in rw c.with_source.ensures (omega (arith, left)),
    )

pub loop-k-preserved : goal.loop-k-preserved
loop-k-preserved c =
    let a = c.args in
    let l = c.loop-k in
    let left = c.loop-k-test.true in
    let t = c.in-Some.t in
    let note = c.step-s.result.note in
    let more : ◌≡◌ {A = Made} c.with_event-made.result (record { pairs = event_added (source_added l.made.pairs note) l.made.counts note; counts = count_added l.made.counts note }) =
    c.with_event-made.ensures ∙ rw c.with_source.ensures in (
      search rules,
      search rules,
      length-set l.schedule l.k t ∙ l.invariant.2,
      let p = c.requires.0 in
          let g = c.requires.1 in
          let X = c.requires.2 in
          let G = l.invariant.4 p g X (c.started-machine.ensures.0 ∙ c.requires.3) in
          let W = walk_on a.program.now.code a.program.now.lengths a.program.now.threads a.pairs a.places p g X l.machine l.made.pairs l.made.counts l.schedule l.k G in
          let choice = c.in-Some.ensures.next p g G.so_far W in
          let ok = walk_enabled a.program.now.code a.program.now.lengths a.program.now.threads a.pairs a.places p g X l.machine l.made.pairs l.made.counts l.schedule l.k G left t choice in
          let near = walk_place a.program.now.code a.program.now.lengths a.program.now.threads a.pairs a.places p g X l.machine l.made.pairs l.made.counts l.schedule l.k G left t choice in
          let ranged = walk_note a.program.now.code a.program.now.lengths a.program.now.threads a.pairs a.places p g X l.machine l.made.pairs l.made.counts l.schedule l.k G left t choice
          c.step-s.result (c.step-s.ensures (run SC (start p) G.so_far) G.holds ok near) in
          few_more l.made.counts _ _ l.k l.invariant.1 ranged (ap (λ (x : Made). x.counts) more) l.invariant.3,
      λ p g X e.
          let G = l.invariant.4 p g X e in
          let W = walk_on a.program.now.code a.program.now.lengths a.program.now.threads a.pairs a.places p g X l.machine l.made.pairs l.made.counts l.schedule l.k G in
          let choice = c.in-Some.ensures.next p g G.so_far W in
          let ok = walk_enabled a.program.now.code a.program.now.lengths a.program.now.threads a.pairs a.places p g X l.machine l.made.pairs l.made.counts l.schedule l.k G left t choice in
          let near = walk_place a.program.now.code a.program.now.lengths a.program.now.threads a.pairs a.places p g X l.machine l.made.pairs l.made.counts l.schedule l.k G left t choice in
          walk_more a.program.now.code a.program.now.lengths a.program.now.threads a.pairs a.places p g X l.machine l.made.pairs l.made.counts l.schedule l.k G left t choice
          c.step-s.result (c.step-s.ensures (run SC (start p) G.so_far) G.holds ok near) _ _ (ap (λ (x : Made). x.pairs) more) (ap (λ (x : Made). x.counts) more)
          l.invariant.0 l.invariant.1 l.invariant.2 (λ x. let z = l.invariant.3 x in omega (arith, left)),
    )

pub returns : goal.returns
returns c =
    let a = c.args in
    let l = c.loop-k in
    λ p g X e.
    let G = l.invariant.4 p g X (c.started-machine.ensures.0 ∙ e) in
    let whole : l.k ≡ 24 = omega arith in
    rw (← whole) (walk_whole a.program.now.code a.program.now.lengths a.program.now.threads a.pairs a.places p g X l.machine l.made.pairs l.made.counts l.schedule l.k G c.loop-k-test.false
    (λ x. let z = l.invariant.3 x in omega arith))

use Rattle.std.proofs.Common.{rules, ◌/◌, ◌∙◌, arith, length-set}
use Rattle.machine.proofs.HeldStart.{short_held}
use Rattle.judge_values.proofs.HeldRoundLoop.{six_held, near_held, iteration_standing, standing_bounded, iteration_more, iteration_over, iterations_start}
use Rattle.judge_values.proofs.valuing.in_round.Goals as goal

pub loop-k-init : goal.loop-k-init
loop-k-init c = (search rules, search rules, λ p loaded O. iterations_start c.args.program.now.code c.args.program.now.lengths p c.args.values.now c.args.opened _ O)

pub loop-k-preserved-then-program-k : goal.loop-k-preserved-then-program-k
loop-k-preserved-then-program-k c =
    let a = c.args in
    let l = c.loop-k in (
      l.invariant.0,
      l.invariant.1,
      λ p loaded O.
          let six = six_held a.program.now.code a.program.now.lengths a.program.now.threads p loaded in
          let here = c.loop-k-test.true in
          iteration_over a.program.now.code a.program.now.lengths a.program.now.threads p loaded a.values.now a.opened l.thread l.k l.places l.left O (l.invariant.2 p loaded O) c.if-k-ne0.true (omega arith) c.if-program-k.true,
    )

pub met-r-requires : goal.met-r-requires
met-r-requires c =
    let a = c.args in
    let l = c.loop-k in
    let p = c.requires.0 in
    let loaded = c.requires.1 in
    let O = c.requires.2 in
    let S = iteration_standing a.program.now.code a.program.now.lengths a.program.now.threads p loaded a.values.now a.opened l.thread l.k l.places l.left O (l.invariant.2 p loaded O) c.choose-n.result c.choose-n.ensures in (
      omega (arith, six_held a.program.now.code a.program.now.lengths a.program.now.threads p loaded),
      short_held a.program.now.code a.program.now.lengths a.program.now.threads p loaded (l.k / 16) (omega (arith, c.loop-k-test.true)),
      standing_bounded a.program.now.code a.program.now.lengths a.program.now.threads p loaded (l.k / 16) (omega (arith, c.loop-k-test.true)) S,
    )

pub loop-k-preserved : goal.loop-k-preserved
loop-k-preserved c =
    let a = c.args in
    let l = c.loop-k in
    let r = c.met-r.result in (
      length-set l.places l.k r.place ∙ l.invariant.0,
      length-set l.left l.k r.left ∙ l.invariant.1,
      λ p loaded O.
          let here = c.loop-k-test.true in
          let six = six_held a.program.now.code a.program.now.lengths a.program.now.threads p loaded in
          let G = l.invariant.2 p loaded O in
          let S = iteration_standing a.program.now.code a.program.now.lengths a.program.now.threads p loaded a.values.now a.opened l.thread l.k l.places l.left O G c.choose-n.result c.choose-n.ensures in
          let M = c.met-r.ensures S.machine S.state S.here S.holds (near_held a.program.now.code a.program.now.lengths a.program.now.threads p loaded S.machine S.state S.holds (l.k / 16) (omega arith)) in
          iteration_more a.program.now.code a.program.now.lengths a.program.now.threads p loaded a.values.now a.opened l.thread l.k l.places l.left O G c.choose-n.result S r M l.invariant.0 l.invariant.1 (omega arith),
    )

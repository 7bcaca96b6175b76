use Rattle.std.proofs.Common.{rules, ◌<◌, arith, length-set, refl, ◌∙◌}
use Rattle.machine.proofs.HeldStart.{short_held}
use Rattle.force_moves.proofs.TailLaws.{tails_more, at_most_six}
use Rattle.force_moves.proofs.tails.tails_of.Goals as goal

pub loop-t-init : goal.loop-t-init
loop-t-init c = (search rules, refl, λ u b. absurd (omega arith))

pub offset_bounds-program-t : goal.offset_bounds-program-t
offset_bounds-program-t c =
    let small : c.loop-t.t < 6 = let args = c.args in
    let pre = c.requires in
    omega (arith, c.loop-t-test.true, at_most_six args.program.now.code args.program.now.lengths args.program.now.threads pre.0 pre.1) in
    let h = small in search rules

pub bounds-program-t : goal.bounds-program-t
bounds-program-t c =
    let small : c.loop-t.t < 6 = let args = c.args in
    let pre = c.requires in
    omega (arith, c.loop-t-test.true, at_most_six args.program.now.code args.program.now.lengths args.program.now.threads pre.0 pre.1) in
    let h = small in search rules

pub tail-requires : goal.tail-requires
tail-requires c =
    let small : c.loop-t.t < 6 = let args = c.args in
    let pre = c.requires in
    omega (arith, c.loop-t-test.true, at_most_six args.program.now.code args.program.now.lengths args.program.now.threads pre.0 pre.1) in
    let args = c.args in
    let pre = c.requires in
    (small, short_held args.program.now.code args.program.now.lengths args.program.now.threads pre.0 pre.1 c.loop-t.t c.loop-t-test.true)

pub offset_bounds-all-t : goal.offset_bounds-all-t
offset_bounds-all-t c =
    let small : c.loop-t.t < 6 = let args = c.args in
    let pre = c.requires in
    omega (arith, c.loop-t-test.true, at_most_six args.program.now.code args.program.now.lengths args.program.now.threads pre.0 pre.1) in
    let h = small in search rules

pub bounds-all-t : goal.bounds-all-t
bounds-all-t c =
    let small : c.loop-t.t < 6 = let args = c.args in
    let pre = c.requires in
    omega (arith, c.loop-t-test.true, at_most_six args.program.now.code args.program.now.lengths args.program.now.threads pre.0 pre.1) in
    let h = small in search rules

pub loop-t-preserved : goal.loop-t-preserved
loop-t-preserved c =
    let small : c.loop-t.t < 6 = let args = c.args in
    let pre = c.requires in
    omega (arith, c.loop-t-test.true, at_most_six args.program.now.code args.program.now.lengths args.program.now.threads pre.0 pre.1) in
    let args = c.args in
    let loop = c.loop-t in (
      search rules,
      length-set loop.all loop.t c.tail.result ∙ loop.invariant.1,
      tails_more args.program.now.code args.program.now.lengths args.program.now.threads loop.all loop.t c.tail.result loop.invariant.1 (small) loop.invariant.2 c.tail.ensures,
    )

pub returns : goal.returns
returns c = λ u b. c.loop-t.invariant.2 u (omega (arith, b, c.loop-t-test.false))

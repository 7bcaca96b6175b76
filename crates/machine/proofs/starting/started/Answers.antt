use Rattle.std.proofs.Common.{rules, refl, ◌∙◌, arith, length-set}
use Rattle.machine.proofs.HeldStart.{short_held, one_more, start_held}
use Rattle.machine.proofs.starting.started.Goals as goal

pub loop-t-init : goal.loop-t-init
loop-t-init c = (search rules, refl, λ p loaded u b. absurd (omega arith))

pub opened-requires : goal.opened-requires
opened-requires c = (search rules, λ h. short_held c.args.program.now.code c.args.program.now.lengths c.args.program.now.threads c.requires.0 c.requires.1 c.loop-t.t h)

pub loop-t-preserved : goal.loop-t-preserved
loop-t-preserved c =
    let args = c.args in
    let loop = c.loop-t in
    let loop-test = c.loop-t-test in (
      search rules,
      length-set loop.all loop.t c.opened.result ∙ loop.invariant.1,
      λ p
          loaded. one_more args.program.now.code args.program.now.lengths args.program.now.threads p loaded loop.all loop.t c.opened.result loop.invariant.1 loop-test.true (loop.invariant.2 p loaded) (c.opened.ensures p loaded),
    )

pub returns : goal.returns
returns c =
    let args = c.args in
    let loop = c.loop-t in
    (refl, λ p loaded e. start_held args.program.now.code args.program.now.lengths args.program.now.threads p loaded loop.all loop.t _ loop.invariant.1 c.loop-t-test.false (loop.invariant.2 p loaded) e)

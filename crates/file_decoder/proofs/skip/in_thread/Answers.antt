use Rattle.std.proofs.Common.{◌∙◌, sym, ap, arith}
use Rattle.file_lines.specs.Numbers.{unless_zero}
use Rattle.file_decoder.proofs.HeldSkips.{far_found, far_next, far_none}
use Rattle.file_decoder.proofs.skip.in_thread.Goals as goal

pub returns-then-n-i : goal.returns-then-n-i
returns-then-n-i c =
    λ xs held e. sym (ap unless_zero (c.loop-i.invariant xs held e) ∙ far_found c.args.code.now c.args.rows.now c.args.t xs held c.loop-i.i (omega
    arith) (omega (arith, c.skip_at.ensures)))

pub loop-i-preserved : goal.loop-i-preserved
loop-i-preserved c =
    λ xs held e. c.loop-i.invariant xs held e ∙ far_next c.args.code.now c.args.rows.now c.args.t xs held c.loop-i.i
    (omega arith) (omega (arith, c.skip_at.ensures))

pub returns : goal.returns
returns c =
    let args = c.args in
    let loop = c.loop-i in
    λ xs held e. ap unless_zero (sym (loop.invariant xs held e ∙ far_none args.code.now args.rows.now args.t xs held loop.i (omega arith)))

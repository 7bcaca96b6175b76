use Rattle.std.proofs.Common.{◌∙◌, sym, ap, arith}
use Rattle.file_lines.specs.Numbers.{unless_zero}
use Rattle.file_decoder.proofs.HeldSkips.{first_found, first_next_lem, first_none}
use Rattle.file_decoder.proofs.skip.far_skip.Goals as goal

pub returns-in-Some : goal.returns-in-Some
returns-in-Some c =
    let t = c.loop-t.t in
    λ cs held. first_found cs t c.in-Some.line (omega (arith, held.threads)) (sym c.in-Some.is ∙ c.in_thread.ensures _ (held.each t) (held.lengths t))
    ∙ sym (ap unless_zero (c.loop-t.invariant cs held))

pub loop-t-preserved : goal.loop-t-preserved
loop-t-preserved c =
    let t = c.loop-t.t in
    λ cs held. c.loop-t.invariant cs held
    ∙ first_next_lem cs t (omega (arith, held.threads)) (sym c.in_default.is ∙ c.in_thread.ensures _ (held.each t) (held.lengths t))

pub returns : goal.returns
returns c = λ cs held. ap unless_zero (sym (c.loop-t.invariant cs held ∙ first_none cs c.loop-t.t (omega (arith, held.threads))))

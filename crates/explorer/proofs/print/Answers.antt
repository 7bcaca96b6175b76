-- The piece stands behind the text that was printed before it.
use Rattle.std.proofs.Common.{sym, ap, ◌∙◌, ◌++◌, append_assoc, List, ℕ, take}
use native.Mathlib.Omega.{arith}
use Rattle.explorer.proofs.print.Goals as goal

pub loop-output-preserved : goal.loop-output-preserved
loop-output-preserved c =
    let n = c.next-piece in
    let t : List ℕ = c.loop-output.invariant.2.0 in
    let b : List ℕ = take n.result.length n.new.out in (
      n.ensures.1.sound,
      omega (arith, n.auto.out, c.loop-output.invariant.1),
      (t ++ b, append_assoc t b _ ∙ ap (λ (r : List ℕ). t ++ r) (sym n.ensures.1.text) ∙ c.loop-output.invariant.2.1),
    )

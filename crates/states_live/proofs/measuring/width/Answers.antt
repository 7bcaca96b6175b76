-- `width` has two words, and the values by two.
use Rattle.std.proofs.Common.{arith}
use Rattle.states_live.proofs.LiveCount.{stands_reached, words_within}
use Rattle.states_live.proofs.measuring.width.Goals as goal

pub returns : goal.returns
returns c =
    let masks = c.args.masks.now in
    let most = c.most_registers in (
      omega (arith, most.ensures.0),
      λ code lengths threads p loaded lives v σ reached.
          words_within code lengths masks threads p loaded lives v σ reached most.result (most.ensures.1 code lengths threads p loaded lives σ (stands_reached code lengths masks threads p loaded lives v σ reached)),
    )

-- `seen_key` puts the parts together, with no sets.
use Rattle.std.proofs.Common.{refl, []}
use Rattle.theory_sc.specs.ThreadWords.{digits}
use Rattle.states_key.proofs.KeyWords.{seen_held}
use Rattle.states_key.proofs.seen.seen_key.Goals as goal

pub returns : goal.returns
unfolding digits
returns c = λ code n σ held lives fits most.
    seen_held code _ _ _ σ held lives c.requires.1 _ _ 0 n [] _ _ c.first_word-first.ensures refl c.values_of.ensures c.packed.ensures fits most

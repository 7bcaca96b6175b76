-- `key` gathers the values that matter, and puts them behind the rest.
use Rattle.std.proofs.Common.{ap, ◌∙◌}
use Rattle.theory_sc_key.specs.Key.{padded}
use Rattle.tso_key.proofs.Whole.{gathered_held}
use Rattle.tso_key.proofs.keys.key.Goals as goal

pub returns : goal.returns
returns c code threads groups n p v st lives fits most =
    let a = c.args in
    c.words_of.ensures code threads groups n p v st
    (c.values_of-values.ensures ∙ ap (padded 32) (gathered_held code a.lengths.now a.class.now threads groups a.x.now p v st a.masks.now lives)) fits most

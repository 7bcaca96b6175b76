-- `has_step` is the library's question of the six threads.
use Rattle.std.proofs.Common.{◌∙◌, refl, rules, tests}
use Rattle.std.proofs.lemmas.Iterator.{YieldsList-from_range}
use Rattle.std.proofs.lemmas.Iterator.Search.{any_from_yields_List}
use Rattle.force_moves.specs.Standing.{side_of}
use Rattle.force_moves.proofs.Flags.{asks_own, able_by}
use Rattle.force_moves.proofs.sides.has_step.Goals as goal

pub returns : goal.returns
returns c =
    let x = c.args in
    λ code σ held.
    any_from_yields_List (asks_own x.lengths.now x.m x.set (side_of x.side)) _ _ c.any.result c.any.ensures.ran (YieldsList-from_range 0 6 6 refl refl) (λ t b q k. search (rules, tests))
    ∙ able_by x.set (side_of x.side) σ code x.lengths.now x.m held

-- `late_bit` asks whether the thread is late.
use Rattle.std.proofs.Common.{ap₂, ◌∙◌, arith}
use Rattle.theory_sc.specs.Sets.{addend}
use Rattle.search_place.proofs.Bits.{chosen}
use Rattle.search_place.proofs.going.late_bit.Goals as goal

pub returns : goal.returns
returns c =
    let asked = c.is_late_behind in
    let power = c.power in
    let choice = chosen _ _ _ c.choose.ensures in
    (omega (arith, choice.1, power.ensures.0), λ m σ held ek em. choice.0 ∙ ap₂ addend (asked.ensures m σ held ek em) power.ensures.0)

-- `is_led_back` takes one access back after another. The invariant: what is left to do says the same as the whole.
use Rattle.std.proofs.Common.{◌-◌, ◌≡◌}
use Rattle.theory_tso_key.specs.Ways.{becomes}
use Rattle.tso_key.specs.Carried.{last_as}
use Rattle.tso_key.proofs.nearness.is_led_back.Given as goal

abbrev pub invariant-loop : goal.invariant-loop
invariant-loop l = becomes (last_as l.last) 8 l.word l.from l.way ≡ becomes (last_as l.last) (8 - l.counter) l.word l.y l.w

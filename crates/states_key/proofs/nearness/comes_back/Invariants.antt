-- `comes_back` takes off one read after the other. The invariant: what is left comes back exactly if the whole does.
use Rattle.std.proofs.Common.{◌^◌, ◌<◌, ◌≡◌}
use Rattle.theory_sc_key.specs.Ways.{comes_back}
use Rattle.states_key.proofs.nearness.comes_back.Given as goal

abbrev pub invariant-loop-y : goal.invariant-loop-y
invariant-loop-y l = (l.from < 2 ^ 60 → (l.y < 2 ^ 60) × (comes_back 12 l.stamps l.word l.from l.way ≡ comes_back 12 l.stamps l.word l.y l.z))

abbrev pub decreases-loop-y : goal.decreases-loop-y
decreases-loop-y l = l.y

-- `hash` mixes word after word. The invariant: what is left, mixed into h, is the whole.
use Rattle.std.proofs.Common.{◌≡◌, drop}
use Rattle.table.specs.Places.{hash_from}
use Rattle.table.proofs.placing.hash.Given as goal

abbrev pub invariant-loop-w : goal.invariant-loop-w
invariant-loop-w l = hash_from 0 l.key ≡ hash_from l.h (drop l.w-index l.key)

-- `live_set` asks each of the six.
use Rattle.spec_tso.specs.State.{byte_for, access, enabled}
use Rattle.theory_tso.specs.LateBytes.{bytes_of}
use Rattle.tso_place.proofs.going.live_set.Goals as goal

pub returns : goal.returns
unfolding bytes_of byte_for
returns c = λ σ held. c.six.ensures (λ u. enabled σ (byte_for access u)) (λ u b six did. did σ held)

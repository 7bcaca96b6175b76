-- `six` adds up the bits.
use Rattle.std.proofs.Common.{arith}
use Rattle.search_place.proofs.Bits.{six_bits}
use Rattle.tso_order.proofs.sets.six.Goals as goal

pub returns : goal.returns
returns g c =
    λ f e. six_bits f c.f.result c.f-2.result c.f-3.result c.f-4.result c.f-5.result c.f-6.result
    c.addend.result c.addend-2.result c.addend-3.result c.addend-4.result c.addend-5.result c.addend-6.result
    c.addend.ensures.0 c.addend-2.ensures.0 c.addend-3.ensures.0 c.addend-4.ensures.0 c.addend-5.ensures.0 c.addend-6.ensures.0
    (e 0 _ (omega arith) c.f.ensures) (e 1 _ (omega arith) c.f-2.ensures) (e 2 _ (omega arith) c.f-3.ensures)
    (e 3 _ (omega arith) c.f-4.ensures) (e 4 _ (omega arith) c.f-5.ensures) (e 5 _ (omega arith) c.f-6.ensures)

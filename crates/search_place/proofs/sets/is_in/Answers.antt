-- `is_in` shifts the bit to the front; a byte has eight.
use Rattle.std.proofs.Common.{arith, le-ltb, ◌∙◌}
use Rattle.search_place.proofs.Bits.{bit_at, bit_above}
use Rattle.search_place.proofs.sets.is_in.Goals as goal

pub returns-then-k-lt8 : goal.returns-then-k-lt8
returns-then-k-lt8 c = bit_at c.args.set c.args.k

pub returns-else-k-lt8 : goal.returns-else-k-lt8
returns-else-k-lt8 c = le-ltb _ _ c.if-k-lt8.false ∙ bit_above c.args.set c.args.k (omega arith) c.if-k-lt8.false

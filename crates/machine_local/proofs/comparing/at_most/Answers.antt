-- The numbers 2^31 greater modulo 2^32 are in the order of the integers.
use Rattle.std.proofs.Common.{arith}
use Rattle.spec_sc.proofs.Signed.{at_most_offset}
use Rattle.machine_local.proofs.comparing.at_most.Goals as goal

pub returns : goal.returns
returns c =
    let args = c.args in
    rw (c.wrapping_add_u32-2.ensures.value, c.wrapping_add_u32.ensures.value) (at_most_offset args.a args.b (omega arith) (omega arith))

-- `live_before` asks for each of the four registers, and adds up their bits.
use Rattle.std.proofs.Common.{◌∷◌, arith}
use Rattle.file_rows.specs.Rows.{instruction_at}
use Rattle.theory_sc_key.specs.Registers.{live}
use Rattle.states_live.proofs.LiveRows.{live_bit, four_bits}
use Rattle.states_live.proofs.living.live_before.Goals as goal

pub returns : goal.returns
returns c =
    let a = c.args in
    let x = instruction_at a.code.now a.row in
    λ is en ef. four_bits (live 0 (x ∷ is)) c.is_live-b0.result c.is_live-b1.result c.is_live-b2.result c.is_live-b3.result c.choose.result c.choose-2.result c.choose-3.result c.choose-4.result
    c.choose.ensures c.choose-2.ensures c.choose-3.ensures c.choose-4.ensures
    (live_bit x is a.next a.far 0 c.is_live-b0.result (omega arith) en ef c.is_live-b0.ensures)
    (live_bit x is a.next a.far 1 c.is_live-b1.result (omega arith) en ef c.is_live-b1.ensures)
    (live_bit x is a.next a.far 2 c.is_live-b2.result (omega arith) en ef c.is_live-b2.ensures)
    (live_bit x is a.next a.far 3 c.is_live-b3.result (omega arith) en ef c.is_live-b3.ensures)

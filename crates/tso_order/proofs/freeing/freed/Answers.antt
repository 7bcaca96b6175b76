-- `freed` asks those that could be late or far.
use Rattle.std.proofs.Common.{refl}
use Rattle.tso_order.proofs.freeing.freed.Goals as goal

pub returns : goal.returns
returns c =
    let a = c.args in
    λ lengths m σ held et em es eh el la ov fa. record {
      live = refl;
      moving = refl;
      late = c.free_accesses.ensures lengths m σ held et em es eh el la;
      overdue = c.free_moves.ensures a.code.now lengths m σ held es eh ov;
      far = c.free_moves-2.ensures a.code.now lengths m σ held es eh fa;
    }

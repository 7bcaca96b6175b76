-- `free_moves` asks nobody where there is nobody to ask.
use Rattle.std.proofs.Common.{sym, not, ◌&&◌, rules}
use Rattle.spec_schedules.specs.Sets.{has}
use Rattle.spec_tso.specs.State.{byte_for, move}
use Rattle.theory_tso.specs.Deeds.{deed, waits}
use Rattle.tso_order.specs.Freed.{MoveGoesOn}
use Rattle.tso_order.proofs.Choices.{none_in}
use Rattle.tso_order.proofs.freeing.free_moves.Goals as goal

pub returns-then-set-eq0 : goal.returns-then-set-eq0
returns-then-set-eq0 c = let a = c.args in λ code lengths m σ held es eh may. sym (none_in (λ u. not (waits a.e (deed σ (byte_for move u)))) a.set c.if-set-eq0.true)

pub returns : goal.returns
returns c = let a = c.args in λ code lengths m σ held es eh may. c.six.ensures (λ u. has a.set u && not (waits a.e (deed σ (byte_for move u)))) (λ u b six did. let g : MoveGoesOn a.slots.now a.heads.now a.set a.e u b = search rules in g.says code lengths m σ held es eh (may u six))

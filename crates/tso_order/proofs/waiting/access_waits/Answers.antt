-- `access_waits` asks one question after the other.
use Rattle.std.proofs.Common.{ℕ, ◌+◌, ◌*◌, ap, ◌∙◌}
use Rattle.tso_order.proofs.Asked.{asked_empties, asked_away, asked_puts, asked_finds}
use Rattle.tso_order.proofs.waiting.access_waits.Goals as goal

pub returns-then-empties : goal.returns-then-empties
returns-then-empties c = let a = c.args in λ lengths m σ held ek em hold ok.
    asked_empties a.code.now lengths m σ held a.u c.requires.0 ok a.k a.memory.now (c.wide.result * 16 + a.k.at) ek em (ap (λ (i : ℕ). i * 16 + a.k.at) c.wide.ensures.same) a.e _ c.locks_at-locks.ensures _ c.empties.ensures c.if-empties.true

pub returns-then-e-location_at : goal.returns-then-e-location_at
returns-then-e-location_at c = let a = c.args in λ lengths m σ held ek em hold ok.
    asked_away a.code.now lengths m σ held a.u c.requires.0 ok a.k a.memory.now (c.wide.result * 16 + a.k.at) ek em (ap (λ (i : ℕ). i * 16 + a.k.at) c.wide.ensures.same) a.e _ c.locks_at-locks.ensures _ c.empties.ensures c.if-empties.false _ c.location_at.ensures c.if-e-location_at.true

pub returns-then-puts_at : goal.returns-then-puts_at
returns-then-puts_at c = let a = c.args in λ lengths m σ held ek em hold ok. c.touches.ensures
    ∙ asked_puts a.code.now lengths m σ held a.u c.requires.0 ok a.k a.memory.now (c.wide.result * 16 + a.k.at) ek em (ap (λ (i : ℕ). i * 16 + a.k.at) c.wide.ensures.same) a.e _ c.locks_at-locks.ensures _ c.empties.ensures c.if-empties.false _ c.location_at.ensures c.if-e-location_at.false _ c.puts_at.ensures c.if-puts_at.true

pub returns : goal.returns
returns c = let a = c.args in λ lengths m σ held ek em hold ok. c.finds_put.ensures
    ∙ asked_finds a.code.now lengths m σ held a.u c.requires.0 ok a.k a.memory.now (c.wide.result * 16 + a.k.at) ek em (ap (λ (i : ℕ). i * 16 + a.k.at) c.wide.ensures.same) a.e _ c.locks_at-locks.ensures _ c.empties.ensures c.if-empties.false _ c.location_at.ensures c.if-e-location_at.false _ c.puts_at.ensures c.if-puts_at.false _ hold

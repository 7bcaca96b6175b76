-- `free_accesses` asks nobody where there is nobody to ask.
use Rattle.std.proofs.Common.{ℕ, ◌-◌, ◌≡◌, sym, ap, ◌∙◌, not, ◌&&◌, List, get_or, rules}
use Rattle.spec_schedules.specs.Sets.{has}
use Rattle.theory_sc.proofs.Sets.{set_has}
use Rattle.spec_tso.specs.Queue.{Entry}
use Rattle.spec_tso.specs.State.{byte_for, access}
use Rattle.tso_machine.specs.Held.{queue_of}
use Rattle.tso_machine.specs.Slots.{queue_at}
use Rattle.theory_tso.specs.Deeds.{deed, waits}
use Rattle.tso_order.specs.Freed.{stores_to, AccessGoesOn}
use Rattle.tso_order.proofs.HeldDeeds.{same_queue}
use Rattle.tso_order.proofs.Choices.{none_in}
use Rattle.tso_order.proofs.freeing.free_accesses.Goals as goal

pub returns-then-set-eq0 : goal.returns-then-set-eq0
returns-then-set-eq0 c = let a = c.args in λ lengths m σ held et em es eh el may. sym (none_in (λ u. not (waits a.e (deed σ (byte_for access u)))) a.set c.if-set-eq0.true)

pub returns : goal.returns
returns c =
    let a = c.args in
    λ lengths m σ held et em es eh el may. c.six.ensures (λ u. has a.set u && not (waits a.e (deed σ (byte_for access u))))
    (λ u b six did.
    let hold : has c.holders-holding.result u ≡ stores_to a.e.location (queue_of m u) =
    ap (λ (i : ℕ). has i u) c.holders-holding.ensures
    ∙ set_has (λ u. stores_to a.e.location (queue_at a.slots.now (get_or a.heads.now u 0) (get_or a.tails.now u 0 - get_or a.heads.now u 0))) 6 u six
    ∙ ap (λ (q : List Entry). stores_to a.e.location q) (same_queue m a.slots.now a.heads.now a.tails.now es eh el u) in
    let g : AccessGoesOn a.code.now a.threads.now a.memory.now c.holders-holding.result a.set a.e u b = search rules in
    g.says lengths m σ held et em hold (may u six))

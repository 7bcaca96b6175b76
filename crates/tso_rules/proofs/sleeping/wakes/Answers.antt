-- Another thread, by its queue or by its code.
use Rattle.std.proofs.Common.{ne_eqb, ℕ, ◌-◌, sym, ap, ◌∙◌, Bool, not, ◌&&◌, get_or}
use mathlib.Core.Option.{some}
use Rattle.search_rules.specs.Left.{meets_at}
use Rattle.spec_tso.specs.State.{thread_of}
use Rattle.theory_tso.specs.Rules.{wakes}
use Rattle.tso_machine.specs.Slots.{queue_at}
use Rattle.tso_order.specs.Freed.{stores_to}
use Rattle.tso_rules.proofs.Asleep.{wakes_queue, wakes_code}
use Rattle.tso_rules.proofs.sleeping.wakes.Goals as goal

pub returns-then-is_pending : goal.returns-then-is_pending
returns-then-is_pending c =
    let a = c.args in
    let w = c.wide-i.ensures.same in
    λ code σ left shown small. c.if-is_pending.true ∙ wakes_queue code a.lengths.now a.at.now a.slots.now a.heads.now a.tails.now σ shown a.u c.requires.0 a.a.location small a.a.writer
    (ap (λ (i : ℕ). stores_to a.a.location (queue_at a.slots.now (get_or a.heads.now i 0) (get_or a.tails.now i 0 - get_or a.heads.now i 0))) (sym w) ∙ sym c.is_pending.ensures ∙ c.if-is_pending.true)
    ∙ ap (λ (y : Bool). not y && wakes (some a.a.writer) a.a.location (thread_of σ a.u)) (sym (ne_eqb a.u a.a.thread c.if-u-a.true))

pub returns-else-is_pending : goal.returns-else-is_pending
returns-else-is_pending c =
    let a = c.args in
    let w = c.wide-i.ensures.same in
    λ code σ left shown small. c.meets.ensures code left ∙ ap (λ (i : ℕ). meets_at code a.lengths.now a.at.now i a.a.location a.a.writer) w
    ∙ wakes_code code a.lengths.now a.at.now a.slots.now a.heads.now a.tails.now σ shown a.u c.requires.0 a.a.location small a.a.writer
    (ap (λ (i : ℕ). stores_to a.a.location (queue_at a.slots.now (get_or a.heads.now i 0) (get_or a.tails.now i 0 - get_or a.heads.now i 0))) (sym w) ∙ sym c.is_pending.ensures ∙ c.if-is_pending.false)
    ∙ ap (λ (y : Bool). not y && wakes (some a.a.writer) a.a.location (thread_of σ a.u)) (sym (ne_eqb a.u a.a.thread c.if-u-a.true))

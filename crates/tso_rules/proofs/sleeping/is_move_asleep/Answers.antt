-- `is_move_asleep` asks who could wake the move.
use Rattle.std.proofs.Common.{ℕ, ◌%◌, ◌<◌, ◌≡◌, sym, ap, ◌∙◌, Bool, true, ◌&&◌, arith, get_or}
use mathlib.Core.Option.{some}
use Rattle.spec_tso.specs.State.{byte_for, move, place, thread_of}
use Rattle.theory_tso.specs.Rules.{wakes, unwoken}
use Rattle.tso_machine.specs.Slots.{no_store}
use Rattle.tso_rules.proofs.Asleep.{quiet_but, unwoken_move, shown_oldest}
use Rattle.tso_rules.proofs.sleeping.is_move_asleep.Goals as goal

pub returns-then-not-is_in : goal.returns-then-not-is_in
returns-then-not-is_in c = let q = sym c.is_in.ensures ∙ c.if-not-is_in.true in λ code σ left shown may. rw q

pub bounds-heads-wide : goal.bounds-heads-wide
bounds-heads-wide c = omega (arith, c.wide.ensures.same, c.requires.0)

pub is_woken-requires : goal.is_woken-requires
is_woken-requires c = (c.requires.1, c.requires.2)

pub returns : goal.returns
returns c =
    let a = c.args in
    let is = sym c.is_in.ensures ∙ c.if-not-is_in.false in
    λ code σ left shown may.
    let l = (get_or a.slots.now (c.wide-2.result % 16) no_store).location in
    let e : l ≡ place σ move a.t = shown_oldest code a.lengths.now a.at.now a.slots.now a.heads.now a.tails.now σ shown a.t c.requires.0 (may is).0 (c.requires.2 a.t c.requires.0) c.wide-2.result (c.wide-2.ensures.same ∙ ap (λ (i : ℕ). get_or a.heads.now i 0) c.wide.ensures.same) in
    let small : l < 8 = (let s = (may is).1 in omega (arith, e, s)) in
    quiet_but (λ u. wakes (some true) l (thread_of σ u)) a.t c.is_woken.result (c.is_woken.ensures code σ left shown small)
    ∙ unwoken_move σ a.t l c.requires.0 e ∙ ap (λ (y : Bool). y && unwoken σ (byte_for move a.t)) (sym is)

-- In the set, where the slot is the one that the thread moves.
use Rattle.std.proofs.Common.{ℕ, sym, ap, ◌∙◌, not, get_or}
use Rattle.tso_order.proofs.HeldDeeds.{held_slot}
use Rattle.tso_order.proofs.freeing.move_goes_on.Goals as goal

pub returns-then-is_in : goal.returns-then-is_in
returns-then-is_in c =
    let a = c.args in
    let is = sym c.if-is_in.ensures in
    record {
      says = λ code lengths m σ held es eh may. rw is (ap not (c.move_waits.ensures code lengths m σ held
          (held_slot code lengths m σ held a.u c.requires (may is) a.slots.now a.heads.now es eh _ (c.wide-then-is_in.ensures.same ∙ ap (λ (i : ℕ). get_or a.heads.now i 0) c.wide.ensures.same)) (may is)));
    }

-- In the set, where the thread stands so.
use Rattle.std.proofs.Common.{ℕ, List, sym, ap, ap₂, not, get_or}
use Rattle.machine.specs.Held.{idle}
use Rattle.machine_access.specs.declared.thread.ThreadState.{ThreadState}
use Rattle.tso_order.proofs.freeing.access_goes_on.Goals as goal

pub returns-then-is_in : goal.returns-then-is_in
returns-then-is_in c =
    let is = sym c.if-is_in.ensures in
    record {
      says = λ lengths m σ held et em hold may. rw is (ap not (c.access_waits.ensures lengths m σ held
          (ap₂ (λ (ts : List ThreadState) (i : ℕ). get_or ts i idle) et (sym c.wide.ensures.same)) em hold (may is)));
    }

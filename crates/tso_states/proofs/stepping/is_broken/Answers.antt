-- `is_broken` asks the thread of an access; a move never fails.
use Rattle.std.proofs.Common.{le-ltb, sym, ap, ◌∙◌, List, get_or}
use Rattle.machine.specs.Held.{idle}
use Rattle.machine_access.specs.declared.thread.ThreadState.{ThreadState}
use Rattle.tso_states.proofs.NextSpot.{broken_access, broken_move}
use Rattle.tso_states.proofs.stepping.is_broken.Goals as goal

pub returns-then-b-lt6 : goal.returns-then-b-lt6
returns-then-b-lt6 c code lengths class n groups y p v next e ok =
    let u = c.wide in
    sym (ap (λ (l : List ThreadState). (get_or l u.result idle).failed) e) ∙ broken_access code lengths class n groups y p v _ next ok c.if-b-lt6.true u.result u.ensures.same

pub returns-else-b-lt6 : goal.returns-else-b-lt6
returns-else-b-lt6 c code lengths class n groups y p v next e ok = le-ltb _ _ c.if-b-lt6.false ∙ broken_move code lengths class n groups y p v _ next ok c.if-b-lt6.false

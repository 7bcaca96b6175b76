-- The newest store of the queue, or what stands in memory.
use Rattle.tso_machine.proofs.CodeLooks.{found_slot, found_memory}
use Rattle.tso_machine.proofs.looking.look.Goals as goal

pub returns-in-Some : goal.returns-in-Some
returns-in-Some c = let a = c.args in found_slot a.slots a.t a.l _ _ a.head a.tail a.v a.w c.wide.ensures.same c.wide-2.ensures.same c.in-Some.s c.in-Some.ensures

pub returns-in-None : goal.returns-in-None
returns-in-None c = let a = c.args in found_memory a.slots a.t a.l _ _ a.head a.tail a.v a.w c.wide.ensures.same c.wide-2.ensures.same c.in-None.ensures

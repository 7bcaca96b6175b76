-- `slot_for` looks for the name, then for a free slot.
use Rattle.std.proofs.Common.{rules}
use Rattle.file_decoder.specs.Compiled.{program_of}
use Rattle.service_marks.proofs.Slotting.{slot_either}
use Rattle.service_marks.proofs.slots.slot_for.Goals as goal

pub returns : goal.returns
returns c =
    let x = c.args in
    slot_either (program_of x.p.now) x.name.now x.marks.now c.slot_of.result c.or_else.result c.slot_of.ensures c.or_else.ensures (λ h. search rules)

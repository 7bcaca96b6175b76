-- The two flags as bytes.
use Rattle.machine.proofs.HeldStep.{byte_of}
use Rattle.machine.proofs.stepping.note_of.Goals as goal

pub returns : goal.returns
returns c = rw (c.from.ensures, c.from-2.ensures, byte_of c.args.a.reads, byte_of c.args.a.writes)

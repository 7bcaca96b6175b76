-- `program_of` decodes the record's file, which is one that is accepted.
use Rattle.service_marks.proofs.Foremost.{open_decoded, open_not_refused}
use Rattle.service_marks.proofs.before.program_of.Goals as goal

pub unreachable-requires : goal.unreachable-requires
unreachable-requires c = open_not_refused c.args.c.now c.requires _ c.decode.ensures _ c.in-Err.is

pub returns : goal.returns
returns c = open_decoded c.args.c.now c.requires _ c.decode.ensures _ c.in-Ok.is

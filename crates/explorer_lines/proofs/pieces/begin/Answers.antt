-- `begin` decodes the file.
use Rattle.explorer_lines.proofs.Beginning.{begun_refused, begun_accepted}
use Rattle.explorer_lines.proofs.pieces.begin.Goals as goal

pub returns-in-Ok : goal.returns-in-Ok
returns-in-Ok c =
    let u = c.unprinted.ensures in
    begun_accepted c.args.file.now c.decode.result c.decode.ensures c.in-Ok.program c.in-Ok.is c.unprinted.result u.0 u.1 u.2 u.3

pub returns-in-Err : goal.returns-in-Err
returns-in-Err c = begun_refused c.args.file.now c.decode.result c.decode.ensures c.in-Err.r c.in-Err.is

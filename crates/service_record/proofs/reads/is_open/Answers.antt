-- `is_open` reads the record's file, then its place.
use Rattle.std.proofs.Common.{take, ◌∙◌}
use Rattle.file_decoder.specs.Compiled.{program_of}
use Rattle.file_decoder.proofs.Decoded.{decoded_refused, decoded_accepted, decoded_well_formed}
use Rattle.service_record.proofs.Opened.{open_long, open_refused, open_accepted}
use Rattle.service_record.proofs.reads.is_open.Goals as goal

pub returns-then-c-gt4096 : goal.returns-then-c-gt4096
returns-then-c-gt4096 c = open_long c.args.c.now c.if-c-gt4096.true

pub is_place-requires : goal.is_place-requires
is_place-requires c = decoded_well_formed c.decode.result _ c.decode.ensures _ c.in-Ok.is

pub returns-in-Ok : goal.returns-in-Ok
returns-in-Ok c =
    let r = c.args.c.now in
    let d = c.decode in
    c.is_place.ensures
    ∙ open_accepted r (program_of c.in-Ok.p) c.if-c-gt4096.false (decoded_accepted d.result (take r.length r.file) d.ensures _ c.in-Ok.is)

pub returns-in-Err : goal.returns-in-Err
returns-in-Err c =
    let r = c.args.c.now in
    let d = c.decode in
    open_refused r _ _ c.if-c-gt4096.false (decoded_refused d.result (take r.length r.file) d.ensures _ c.in-Err.is)

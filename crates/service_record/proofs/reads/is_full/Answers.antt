-- `is_full` carries the schedule out.
use Rattle.std.proofs.Common.{◌∙◌}
use Rattle.file_decoder.specs.Compiled.{program_of}
use Rattle.machine.proofs.HeldStart.{loaded_compiled, starting_compiled}
use Rattle.service_record.proofs.Opened.{whole_by_end}
use Rattle.service_record.proofs.reads.is_full.Goals as goal

pub replayed-run-requires : goal.replayed-run-requires
replayed-run-requires c =
    let p = c.args.p.now in
    (program_of p, loaded_compiled p c.requires, starting_compiled p)

pub returns : goal.returns
returns c =
    let p = c.args.p.now in
    let r = c.replayed-run in
    c.is_ok.ensures.value ∙ whole_by_end p.code p.lengths (program_of p) c.args.schedule.now r.result (r.ensures (program_of p) (loaded_compiled p c.requires) (starting_compiled p))

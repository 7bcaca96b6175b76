-- `kth` admits the file first, then asks for room.
use Rattle.std.proofs.Common.{◌∙◌, arith}
use Rattle.spec_file.specs.Decode.{decode}
use Rattle.file_decoder.specs.Compiled.{program_of}
use Rattle.file_decoder.proofs.Said.{answer_refused, answer_accepted}
use Rattle.spec_model.specs.OnFile.{admit}
use Rattle.spec_sc.specs.Sequential.{sc}
use Rattle.spec_sc.proofs.Laws.{sc_laws}
use Rattle.listing_replay.proofs.ListedProgram.{passed_on, answer_listed}
use Rattle.member_call.proofs.Called.{file_refused, file_short, file_kth}
use Rattle.member_call.proofs.kth_call.kth.Goals as goal

-- the file is refused
pub returns-in_err-program : goal.returns-in_err-program
returns-in_err-program c =
    let a = c.args in
    let e = answer_refused c.program_from.result (admit sc (decode a.file.now)) c.program_from.ensures _ c.in_err-program.was in
    let g = file_refused sc a.file.now a.k a.out.now a.scratch.now _ e in
    record { answer = passed_on _ _ c.from_residual.ensures.1 ∙ g.0; output = g.1; later = g.2 }

-- the output is too short
pub returns-then-out-lt24 : goal.returns-then-out-lt24
returns-then-out-lt24 c =
    let a = c.args in
    let e = answer_accepted c.program_from.result (admit sc (decode a.file.now)) c.program_from.ensures _ c.in_ok-program.was in
    let g = file_short sc a.file.now a.k a.out.now a.scratch.now (program_of c.in_ok-program.program) e c.if-out-lt24.true in
    record { answer = g.0; output = g.1; later = g.2 }

pub kth-requires : goal.kth-requires
kth-requires c = (answer_listed sc sc_laws c.program_from.result _ c.args.file.now c.program_from.ensures c.in_ok-program.was).0

pub put_found-requires : goal.put_found-requires
put_found-requires c = (omega arith, (c.kth.ensures.member.0, c.if-out-lt24.false))

-- the member, or no more
pub returns : goal.returns
returns c =
    let a = c.args in
    let e = answer_accepted c.program_from.result (admit sc (decode a.file.now)) c.program_from.ensures _ c.in_ok-program.was in
    let put = c.put_found.ensures in
    let g = file_kth sc a.file.now a.k a.out.now a.scratch.now (program_of c.in_ok-program.program) e c.if-out-lt24.false _ c.kth.ensures.member.1 _ _ _ put.length put.output c.kth.ensures.zeros in
    record { answer = g.0; output = g.1; later = g.2 }

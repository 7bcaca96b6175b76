-- `robust` decodes the file.
use Rattle.std.proofs.Common.{rules, ◌≡◌, ◌∙◌}
use Rattle.file_decoder.specs.Compiled.{program_of}
use Rattle.file_decoder.proofs.Decoded.{decoded_refused, decoded_accepted, decoded_well_formed}
use Rattle.spec_file.specs.Decode.{accepted}
use Rattle.robust.proofs.Called.{refusal, says_on, says_refused}
use Rattle.robust.proofs.robust_call.robust.Goals as goal

pub robust_of-requires : goal.robust_of-requires
robust_of-requires c = decoded_well_formed c.decode.result c.args.file.now c.decode.ensures c.in_ok-program.program c.in_ok-program.was

pub returns-in_err-program : goal.returns-in_err-program
returns-in_err-program c =
    let a = c.args in
    let r = c.in_err-program.field-0.0 in
    let reply : c.from_residual.result ≡ refusal r.number r.place = search rules in
    let whole = says_refused a.file.now a.out.now r.number r.place (decoded_refused c.decode.result a.file.now c.decode.ensures r c.in_err-program.was) in
    (whole.0, whole.1, reply ∙ whole.2, whole.3)

pub returns : goal.returns
returns c =
    let a = c.args in
    let p = c.in_ok-program.program in
    says_on a.file.now a.out.now (accepted (program_of p)) (decoded_accepted c.decode.result a.file.now c.decode.ensures p c.in_ok-program.was) _ _
    (c.robust_of.ensures.answer, c.robust_of.ensures.output)

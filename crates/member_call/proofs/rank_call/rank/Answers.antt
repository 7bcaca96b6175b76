-- `rank` admits the file first.
use Rattle.std.proofs.Common.{sym, ap, ◌∙◌}
use Rattle.spec_file.specs.Decode.{decode}
use Rattle.file_decoder.specs.Compiled.{program_of}
use Rattle.file_decoder.proofs.Said.{answer_refused, answer_accepted}
use Rattle.spec_model.specs.OnFile.{admit}
use Rattle.spec_sc.specs.Sequential.{sc}
use Rattle.spec_sc.proofs.Laws.{sc_laws}
use Rattle.spec_members.specs.Rank.{Ranked}
use Rattle.spec_members.specs.Said.{rank_scratch}
use Rattle.spec_members.proofs.Called.{rank_listed}
use Rattle.listing_replay.proofs.ListedProgram.{passed_on, answer_listed}
use Rattle.member_call.specs.RankWord.{rank_answer_of}
use Rattle.member_call.proofs.Called.{rank_file_refused}
use Rattle.member_call.proofs.rank_call.rank.Goals as goal

pub returns-in_err-program : goal.returns-in_err-program
returns-in_err-program c =
    let a = c.args in
    let e = answer_refused c.program_from.result (admit sc (decode a.file.now)) c.program_from.ensures _ c.in_err-program.was in
    let whole = rank_file_refused sc a.schedule.now a.scratch.now a.file.now _ e in
    record { answer = passed_on _ _ c.from_residual.ensures.1 ∙ whole.0; later = whole.1 }

pub rank_of-requires : goal.rank_of-requires
rank_of-requires c = (answer_listed sc sc_laws c.program_from.result _ c.args.file.now c.program_from.ensures c.in_ok-program.was).0

pub returns : goal.returns
returns c =
    let a = c.args in
    let e = answer_accepted c.program_from.result (admit sc (decode a.file.now)) c.program_from.ensures _ c.in_ok-program.was in
    let q = sym (rank_listed sc a.file.now (program_of c.in_ok-program.program) e a.schedule.now) in
    let r = c.rank_of.ensures in
    record { answer = r.answer ∙ ap rank_answer_of q; later = r.later ∙ ap (λ (x : Ranked). rank_scratch x a.scratch.now) q }

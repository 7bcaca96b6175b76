-- `class_of` carries out the schedule and divides by its notes.
use Rattle.std.proofs.Common.{sym, ap, ◌∙◌, List, ℕ}
use Rattle.std.specs.Prelude.{Ok}
use Rattle.file_decoder.specs.Compiled.{program_of}
use Rattle.search_place.proofs.ClassGroups.{program_groups}
use Rattle.graph_writer.specs.NoteText.{notes_at}
use Rattle.listing_replay.proofs.ListedProgram.{passed_on}
use Rattle.class_size.specs.Moves.{quotient}
use Rattle.class_size.proofs.ClassCalled.{class_refused, class_sized}
use Rattle.class_size.proofs.class_call.class_of.Goals as goal

pub returns-in_err-run : goal.returns-in_err-run
returns-in_err-run c =
    let args = c.args in
    let run = c.replayed-run in
    passed_on _ _ c.from_residual.ensures.1 ∙ class_refused args.model (program_of args.program) args.schedule.now run.result run.ensures _ c.in_err-run.was

pub returns : goal.returns
returns c =
    let args = c.args in
    let run = c.replayed-run in
    let ns = notes_at run.result.log run.result.notes in
    ap Ok (c.quotient_of.ensures ∙ ap (λ (gs : List (List ℕ)). quotient gs ns) (sym (program_groups args.program)))
    ∙ class_sized args.model (program_of args.program) args.schedule.now run.result run.ensures c.requires c.in_ok-run.was

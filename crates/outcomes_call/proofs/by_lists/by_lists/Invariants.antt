-- `by_lists` takes one listed schedule after the other. The invariant: what is written, and what the rest adds, are the rows from the number on.
use Rattle.std.proofs.Common.{false}
use Rattle.file_decoder.specs.Compiled.{program_of}
use Rattle.listing_cursor.specs.ListRows.{remaining, pages}
use Rattle.listing_model.specs.ModelOf.{model_of}
use Rattle.outcomes_call.specs.Walked.{Walks}
use Rattle.outcomes_call.proofs.by_lists.by_lists.Given as goal

abbrev pub invariant-loop-model : goal.invariant-loop-model
invariant-loop-model l =
    Walks (model_of l.model) (program_of l.program) l.from l.room l.initial.out (remaining (model_of l.model) (program_of l.program) false l.cursor) l.t l.out

abbrev pub decreases-loop-model : goal.decreases-loop-model
decreases-loop-model l = pages (model_of l.model) (program_of l.program) false l.cursor

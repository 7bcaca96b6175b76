-- `first_passing` goes through the list page by page, and through a page row by row. The invariants: the first schedule that passes is yet
-- to come, whatever function the test computes.
use Rattle.std.proofs.Common.{◌≡◌, Bool, false}
use Rattle.std.specs.Fn.{FnReturnsAt}
use Rattle.file_decoder.specs.Compiled.{program_of}
use Rattle.spec_schedules.specs.Order.{Schedule}
use Rattle.spec_model.specs.Model.{Full}
use Rattle.listing_cursor.specs.ListRows.{pages}
use Rattle.listing_model.specs.ModelOf.{model_of}
use Rattle.listing_pages.proofs.FirstByPages.{ToCome}
use Rattle.outcome_lists.proofs.Walked.{Left}
use Rattle.outcome_lists.proofs.seeking.first_passing.Given as goal

abbrev pub invariant-loop-model : goal.invariant-loop-model
invariant-loop-model g l =
    (f : Schedule → Bool) → ((s : Schedule) (b : Bool) → Full (model_of l.model) (program_of l.program) s → FnReturnsAt g.F.Fn l.test s b → b ≡ f s)
    → ToCome (model_of l.model) (program_of l.program) f l.cursor

abbrev pub decreases-loop-model : goal.decreases-loop-model
decreases-loop-model g l = pages (model_of l.model) (program_of l.program) false l.cursor

abbrev pub invariant-loop-k : goal.invariant-loop-k
invariant-loop-k g l =
    (f : Schedule → Bool) → ((s : Schedule) (b : Bool) → Full (model_of l.model) (program_of l.program) s → FnReturnsAt g.F.Fn l.test s b → b ≡ f s)
    → Left l.model (program_of l.program) f l.rows l.page.rows l.k

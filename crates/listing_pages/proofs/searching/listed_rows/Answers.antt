-- `listed_rows` is the search of the model that it is told.
use Rattle.std.proofs.Common.{◌/◌, sym, subst, length, take}
use Rattle.file_decoder.specs.Compiled.{program_of}
use Rattle.spec_schedules.specs.Found.{after}
use Rattle.spec_model.specs.Laws.{Admitted}
use Rattle.spec_model.specs.Search.{sought}
use Rattle.listing_cursor.specs.Bounds.{bound_at}
use Rattle.spec_calls.specs.Rows.{row_size}
use Rattle.listing_cursor.specs.ListRows.{Shown}
use Rattle.listing_model.specs.declared.memory.Model.{Model}
use Rattle.listing_model.specs.ModelOf.{model_of}
use Rattle.listing_pages.proofs.searching.listed_rows.Goals as goal

pub listed_rows-requires : goal.listed_rows-requires
listed_rows-requires c =
    (subst (λ (m : Model). Admitted (model_of m) (program_of c.args.program)) c.in-Sequential.is c.requires).0

pub listed_rows-requires-in-TotalStoreOrder : goal.listed_rows-requires-in-TotalStoreOrder
listed_rows-requires-in-TotalStoreOrder c =
    subst (λ (m : Model). Admitted (model_of m) (program_of c.args.program)) c.in-TotalStoreOrder.is c.requires

pub returns-in-Sequential : goal.returns-in-Sequential
returns-in-Sequential c =
    let a = c.args in
    subst
    (λ (m : Model). Shown (model_of m) (program_of a.program)
    (take (length a.out.now / row_size (model_of m).need) (after (bound_at a.tight a.bound.now 0) (sought (model_of m) a.failures (program_of a.program))))
    a.out.now c.listed_rows.new.out c.listed_rows.result)
    (sym c.in-Sequential.is) c.listed_rows.ensures

pub returns-in-TotalStoreOrder : goal.returns-in-TotalStoreOrder
returns-in-TotalStoreOrder c =
    let a = c.args in
    subst
    (λ (m : Model). Shown (model_of m) (program_of a.program)
    (take (length a.out.now / row_size (model_of m).need) (after (bound_at a.tight a.bound.now 0) (sought (model_of m) a.failures (program_of a.program))))
    a.out.now c.listed_rows-in-TotalStoreOrder.new.out c.listed_rows-in-TotalStoreOrder.result)
    (sym c.in-TotalStoreOrder.is) c.listed_rows-in-TotalStoreOrder.ensures

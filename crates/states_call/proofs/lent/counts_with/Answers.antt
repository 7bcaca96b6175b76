-- `counts_with` counts by states, under either memory model.
use Rattle.std.proofs.Common.{subst}
use Rattle.file_decoder.specs.Compiled.{program_of}
use Rattle.spec_model.specs.Laws.{Admitted}
use Rattle.listing_model.specs.declared.memory.Model.{Model}
use Rattle.listing_model.specs.ModelOf.{model_of}
use Rattle.states_call.proofs.lent.counts_with.Goals as goal

pub counted-requires : goal.counted-requires
counted-requires c = (subst (λ (m : Model). Admitted (model_of m) (program_of c.args.program)) c.in-Sequential.is c.requires).0

pub counted-requires-in-TotalStoreOrder : goal.counted-requires-in-TotalStoreOrder
counted-requires-in-TotalStoreOrder c = subst (λ (m : Model). Admitted (model_of m) (program_of c.args.program)) c.in-TotalStoreOrder.is c.requires

pub returns-in-Sequential : goal.returns-in-Sequential
returns-in-Sequential c = rw c.in-Sequential.is (record { counts = c.counted.ensures.numbers; later = c.counted.ensures.zeros })

pub returns-in-TotalStoreOrder : goal.returns-in-TotalStoreOrder
returns-in-TotalStoreOrder c = rw c.in-TotalStoreOrder.is (record { counts = c.counted-in-TotalStoreOrder.ensures.numbers; later = c.counted-in-TotalStoreOrder.ensures.zeros })

-- `key_width` is the width that was made ready.
use Rattle.std.proofs.Common.{sym, subst}
use Rattle.file_decoder.specs.Compiled.{program_of}
use Rattle.spec_model.specs.Laws.{Admitted}
use Rattle.listing_model.specs.declared.memory.Model.{Model}
use Rattle.listing_model.specs.ModelOf.{model_of}
use Rattle.outcome_states.specs.Marks.{Wide}
use Rattle.outcome_states.proofs.seeking.key_width.Goals as goal

pub made-requires : goal.made-requires
made-requires c = c.requires.0

pub made-requires-in-TotalStoreOrder : goal.made-requires-in-TotalStoreOrder
made-requires-in-TotalStoreOrder c = subst (λ (m : Model). Admitted (model_of m) (program_of c.args.program)) c.in-TotalStoreOrder.is c.requires

pub returns-in-Sequential : goal.returns-in-Sequential
returns-in-Sequential c =
    let made = c.made in
    subst (λ (m : Model). Wide m (program_of c.args.program) made.result.width) (sym c.in-Sequential.is) (made.ensures.few, made.ensures.wide)

pub returns-in-TotalStoreOrder : goal.returns-in-TotalStoreOrder
returns-in-TotalStoreOrder c =
    let made = c.made-in-TotalStoreOrder in
    subst (λ (m : Model). Wide m (program_of c.args.program) made.result.width) (sym c.in-TotalStoreOrder.is) (made.ensures.few, made.ensures.wide)

-- `first_lacking` looks for the first that the first program lacks.
use Rattle.std.proofs.Common.{rules}
use Rattle.file_decoder.specs.Compiled.{program_of}
use Rattle.spec_across.proofs.Attained.{lacks_under}
use Rattle.listing_model.specs.ModelOf.{model_of}
use Rattle.covers.proofs.lacking.first_lacking.Goals as goal

pub returns-clause-first : goal.returns-clause-first
returns-clause-first c =
    let a = c.args in
    c.first_passing.ensures.first (lacks_under (model_of a.model) (program_of a.first) (model_of a.other) (program_of a.second)) (λ s b full r. search rules)

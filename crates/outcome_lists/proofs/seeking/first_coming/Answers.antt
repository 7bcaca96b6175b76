-- `first_coming` looks for the first that has the outcome.
use Rattle.std.proofs.Common.{rules}
use Rattle.file_decoder.specs.Compiled.{program_of}
use Rattle.spec_across.specs.Same.{comes_to}
use Rattle.listing_model.specs.ModelOf.{model_of}
use Rattle.outcome_lists.proofs.seeking.first_coming.Goals as goal

pub returns-clause-first : goal.returns-clause-first
returns-clause-first c =
    let M = model_of c.args.model in
    let p = program_of c.args.program in
    c.first_passing.ensures.first (comes_to M p c.args.o) (λ s b full r. search rules)

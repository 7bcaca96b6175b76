-- `lacks` looks for the outcome in the first program's list.
use Rattle.std.proofs.Common.{rules, ◌≡◌, ◌∙◌}
use Rattle.std.specs.Prelude.{is_none}
use Rattle.file_decoder.specs.Compiled.{program_of}
use Rattle.listing_model.specs.ModelOf.{model_of}
use Rattle.covers.proofs.Lacked.{lacked}
use Rattle.covers.proofs.lacking.lacks.Goals as goal

pub returns : goal.returns
returns c = λ full.
    let a = c.args in
    let none : c.is_none.result ≡ is_none c.first_coming.result = search rules in
    none
    ∙ lacked (model_of a.model) (program_of a.first) (model_of a.other) (program_of a.second) a.schedule.now c.outcome_of-o.result c.first_coming.result
    (c.outcome_of-o.ensures full) c.first_coming.ensures.first

-- `comes_to` compares the values, then the flags.
use Rattle.std.proofs.Common.{sym, ◌∙◌, true, false}
use Rattle.file_decoder.specs.Compiled.{program_of}
use Rattle.listing_model.specs.ModelOf.{model_of}
use Rattle.outcome_lists.proofs.Same.{pairs_come}
use Rattle.outcome_lists.proofs.outcomes.comes_to.Goals as goal

pub returns-then-eq : goal.returns-then-eq
returns-then-eq c = λ full.
    let a = c.args in
    let x = c.outcome_of-x in
    pairs_come (model_of a.model) (program_of a.program) a.o x.result a.schedule.now true (x.ensures full) (sym c.if-eq.true ∙ c.eq.ensures)

pub returns-else-eq : goal.returns-else-eq
returns-else-eq c = λ full.
    let a = c.args in
    let x = c.outcome_of-x in
    c.if-eq.false
    ∙ pairs_come (model_of a.model) (program_of a.program) a.o x.result a.schedule.now false (x.ensures full) (sym c.if-eq.false ∙ c.eq.ensures)

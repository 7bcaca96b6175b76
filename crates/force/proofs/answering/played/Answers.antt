-- `played` may ask the list first: where none of it fails the friendly side can force.
use Rattle.std.proofs.Common.{◌≡◌, None, refl, sym, ap, ◌∙◌, rules}
use Rattle.listing_cursor.specs.Steps.{found_of}
use Rattle.file_decoder.specs.Compiled.{program_of}
use Rattle.spec_force.specs.Forced.{friendly_can, friendly_forces}
use Rattle.force.specs.Answered.{answer_of}
use Rattle.force.proofs.Forcing.{no_violation}
use Rattle.force.proofs.answering.played.Goals as goal

pub returns-then-is_none-clause-answer : goal.returns-then-is_none-clause-answer
unfolding answer_of
returns-then-is_none-clause-answer c =
    let first = c.first_failing in
    let none : first.result ≡ None = search rules in
    (friendly_can, friendly_forces (no_violation c.args.set (program_of c.args.program) c.requires (sym first.ensures.first.1 ∙ ap found_of none)), refl)

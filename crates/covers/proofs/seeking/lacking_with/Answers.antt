-- `lacking_with` asks for the first schedule of the second program beyond all outcomes of the first, or has the lists walked.
use Rattle.std.proofs.Common.{ℕ, ap, ◌∙◌, arith, replicate}
use Rattle.file_decoder.specs.Compiled.{program_of}
use Rattle.listing_cursor.specs.Steps.{found_of}
use Rattle.listing_model.specs.ModelOf.{model_of}
use Rattle.covers.proofs.Lacked.{new_lacks}
use Rattle.covers.proofs.seeking.lacking_with.Goals as goal
use Rattle.covers.proofs.seeking.lacking_with.Goals.{in-Some, in-None}

pub first_beyond-found-requires : goal.first_beyond-found-requires
first_beyond-found-requires c = (c.requires.1, c.in-Some.ensures.room, omega (arith, c.all_rows.ensures.words))

pub returns-clause-words : goal.returns-clause-words
returns-clause-words c = c.clear.ensures.zeros ∙ ap (λ (n : ℕ). replicate n 0) (c.match-all_rows.auto.scratch ∙ c.all_rows.ensures.words)

pub returns-clause-first : goal.returns-clause-first
returns-clause-first c =
    let a = c.args in
    elim c.match-all_rows.branch [
      | in-Some w ↦ ap found_of w.found-is ∙ w.first_beyond-found.ensures.first
          ∙ new_lacks (model_of a.model) (program_of a.first) a.other (program_of a.second) c.requires.1 _ w.in-Some.known w.in-Some.ensures.exact
      | in-None w ↦ ap found_of w.found-is ∙ w.first_lacking-found.ensures.first
    ]

-- `keep` notes the outcome of the schedule and shows it.
use Rattle.std.proofs.Common.{rules}
use Rattle.file_decoder.specs.Compiled.{program_of}
use Rattle.listing_model.specs.ModelOf.{model_of}
use Rattle.listing_model.proofs.ModelLaws.{model_laws}
use Rattle.outcome_states.proofs.Known.{next_full}
use Rattle.outcome_states.proofs.Marks.{eight_under}
use Rattle.outcome_states.proofs.Gathers.{keeps}
use Rattle.outcome_states.proofs.gathering.keep.Goals as goal

pub returns : goal.returns
returns c =
    let a = c.args in
    let M = model_of a.model in
    let L = model_laws a.model in
    let p = program_of a.program in
    let s = a.steps.now in
    let words = c.note.ensures.words in record {
      words = (words.0, words.1, search rules);
      kept = λ next.
          let x = c.outcome_of-o.ensures (next_full M L p (λ x f. eight_under a.model p c.requires.0 x) a.k s next) in
          keeps M L p (λ x f. eight_under a.model p c.requires.0 x) a.from a.k s next c.outcome_of-o.result x a.cut a.lent.now _ a.out.now _ c.note.ensures.row c.show.ensures.before c.show.ensures.row;
    }

-- `outcome_of` carries the schedule out in the model that it is told, and reads what it left.
use Rattle.std.proofs.Common.{◌≡◌, sym, subst}
use Rattle.file_decoder.specs.Compiled.{program_of}
use Rattle.spec_model.specs.Laws.{Admitted}
use Rattle.spec_model.specs.Model.{Full}
use Rattle.spec_covers.specs.declared.outcome.Outcome.{Outcome}
use Rattle.spec_tso.proofs.Laws.{at_most_16}
use Rattle.spec_across.specs.Under.{outcome_under}
use Rattle.listing_model.specs.declared.memory.Model.{Model}
use Rattle.listing_model.specs.ModelOf.{model_of}
use Rattle.machine.proofs.HeldStart.{loaded_compiled, starting_compiled}
use Rattle.outcome_lists.proofs.Replays.{sequential_outcome, queued_outcome}
use Rattle.outcome_lists.proofs.outcomes.outcome_of.Goals as goal

pub replayed-requires : goal.replayed-requires
replayed-requires c =
    let p = c.args.program in
    (program_of p, loaded_compiled p c.requires.0, starting_compiled p)

pub replayed-requires-in-TotalStoreOrder : goal.replayed-requires-in-TotalStoreOrder
replayed-requires-in-TotalStoreOrder c =
    let p = c.args.program in
    let a = subst (λ (m : Model). Admitted (model_of m) (program_of p)) c.in-TotalStoreOrder.is c.requires in
    (program_of p, loaded_compiled p a.0, starting_compiled p, at_most_16 (program_of p) a.1)

pub returns-in-Sequential : goal.returns-in-Sequential
returns-in-Sequential c =
    let p = c.args.program in
    let s = c.args.schedule.now in
    let r = c.replayed in
    let o : Outcome = record { memory = r.result.machine.memory; fails = c.some_failed.result } in
    subst (λ (m : Model). Full (model_of m) (program_of p) s → o ≡ outcome_under (model_of m) (program_of p) s) (sym c.in-Sequential.is)
    (λ full. sequential_outcome p.code p.lengths (program_of p) s r.result (r.ensures (program_of p) (loaded_compiled p c.requires.0) (starting_compiled p)) full
    c.some_failed.result c.some_failed.ensures)

pub returns-in-TotalStoreOrder : goal.returns-in-TotalStoreOrder
returns-in-TotalStoreOrder c =
    let p = c.args.program in
    let s = c.args.schedule.now in
    let r = c.replayed-in-TotalStoreOrder in
    let fails = c.some_failed-in-TotalStoreOrder in
    let a = subst (λ (m : Model). Admitted (model_of m) (program_of p)) c.in-TotalStoreOrder.is c.requires in
    let o : Outcome = record { memory = r.result.machine.memory; fails = fails.result } in
    subst (λ (m : Model). Full (model_of m) (program_of p) s → o ≡ outcome_under (model_of m) (program_of p) s) (sym c.in-TotalStoreOrder.is)
    (λ full. queued_outcome p.code p.lengths (program_of p) s r.result
    (r.ensures (program_of p) (loaded_compiled p a.0) (starting_compiled p) (at_most_16 (program_of p) a.1)) full fails.result fails.ensures)

-- `replayed` carries the schedule out on the model's machine.
use Rattle.std.proofs.Common.{sym, subst}
use Rattle.file_decoder.specs.Compiled.{program_of}
use Rattle.spec_model.specs.Laws.{Admitted}
use Rattle.machine.proofs.HeldStart.{loaded_compiled, starting_compiled}
use Rattle.spec_tso.proofs.Laws.{at_most_16}
use Rattle.listing_model.specs.declared.memory.Model.{Model}
use Rattle.listing_model.specs.ModelOf.{model_of}
use Rattle.listing_replay.specs.declared.replaying.Replay.{Replay}
use Rattle.listing_replay.specs.Replays.{Replays}
use Rattle.listing_replay.proofs.Carried.{sequences_replay, stores_replay}
use Rattle.listing_replay.proofs.replaying.replayed.Goals as goal

pub replayed-r-requires : goal.replayed-r-requires
replayed-r-requires c =
    let p = c.args.program in
    (program_of p, loaded_compiled p c.requires.0, starting_compiled p)

pub replayed-r-requires-in-TotalStoreOrder : goal.replayed-r-requires-in-TotalStoreOrder
replayed-r-requires-in-TotalStoreOrder c =
    let p = c.args.program in
    let a = subst (λ (m : Model). Admitted (model_of m) (program_of p)) c.in-TotalStoreOrder.is c.requires in
    (program_of p, loaded_compiled p a.0, starting_compiled p, at_most_16 (program_of p) a.1)

pub returns-in-Sequential : goal.returns-in-Sequential
returns-in-Sequential c =
    let p = c.args.program in
    let run = c.replayed-r in
    let r : Replay = record { end = run.result.end; log = run.result.log; notes = run.result.steps } in
    subst (λ (m : Model). Replays m (program_of p) c.args.schedule.now r) (sym c.in-Sequential.is)
    (sequences_replay (program_of p) c.requires.0 c.args.schedule.now p.code p.lengths run.result
    (run.ensures (program_of p) (loaded_compiled p c.requires.0) (starting_compiled p)))

pub returns-in-TotalStoreOrder : goal.returns-in-TotalStoreOrder
returns-in-TotalStoreOrder c =
    let p = c.args.program in
    let a = subst (λ (m : Model). Admitted (model_of m) (program_of p)) c.in-TotalStoreOrder.is c.requires in
    let few = at_most_16 (program_of p) a.1 in
    let run = c.replayed-r-in-TotalStoreOrder in
    let r : Replay = record { end = run.result.end; log = run.result.log; notes = run.result.notes } in
    subst (λ (m : Model). Replays m (program_of p) c.args.schedule.now r) (sym c.in-TotalStoreOrder.is)
    (stores_replay (program_of p) a.0 c.args.schedule.now p.code p.lengths few run.result
    (run.ensures (program_of p) (loaded_compiled p a.0) (starting_compiled p) few))

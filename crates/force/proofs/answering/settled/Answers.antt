-- `settled` tries the hostile side's first steps, or lets it pass.
use Rattle.std.proofs.Common.{arith, refl, sym, ap, ◌∙◌, not, []}
use mathlib.Core.Option.{none, some}
use Rattle.spec_schedules.specs.System.{run}
use Rattle.spec_sc.specs.Graph.{end_of}
use Rattle.spec_force.specs.Game.{hostile, other}
use Rattle.spec_force.specs.Forced.{hostile_can, friendly_can}
use Rattle.spec_force.proofs.Answers.{steps_forced, steps_lost, pass_won, pass_lost}
use Rattle.force_moves.specs.Standing.{side_of}
use Rattle.force_moves.proofs.Turns.{play_pass}
use Rattle.force.specs.Answered.{answer_of}
use Rattle.force.proofs.Forcing.{pass_friendly, pass_hostile}
use Rattle.force.proofs.answering.settled.Goals as goal

pub overflow_add-result : goal.overflow_add-result
overflow_add-result c = omega (arith, c.in-Some.ensures.within)

pub returns-in-Some-clause-answer : goal.returns-in-Some-clause-answer
unfolding answer_of side_of run
returns-in-Some-clause-answer c = λ threads p play.
    let able = c.has_step.ensures c.args.game.now.program.code (end_of p []) play.standing.holds in
    let first = (c.in-Some.ensures.first threads p play).0 in
    (hostile_can (some c.in-Some.t), steps_forced c.args.game.now.set p play.standing.loaded.well_formed c.in-Some.t first.0 (sym able ∙ c.if-has_step.true) first.1 first.2, refl)

pub returns-in-None-clause-answer : goal.returns-in-None-clause-answer
unfolding answer_of side_of run
returns-in-None-clause-answer c = λ threads p play.
    let able = c.has_step.ensures c.args.game.now.program.code (end_of p []) play.standing.holds in
    (friendly_can, steps_lost c.args.game.now.set p play.standing.loaded.well_formed (sym able ∙ c.if-has_step.true) (c.in-None.ensures.first threads p play).0, refl)

pub returns-then-friendly_move-clause-answer : goal.returns-then-friendly_move-clause-answer
unfolding answer_of side_of run other
returns-then-friendly_move-clause-answer c = λ threads p play.
    let able = c.has_step.ensures c.args.game.now.program.code (end_of p []) play.standing.holds in
    let next = (c.friendly_move.ensures.wins threads p [] (play_pass c.args.game.now.program.code c.args.game.now.program.lengths c.args.game.now.tails c.args.game.now.masks threads c.args.game.now.set c.args.game.now.shape hostile c.args.m c.args.table.now 49 p [] play c.has_step.result able (ap not c.if-has_step.false))).0 in
    (friendly_can, pass_lost c.args.game.now.set p play.standing.loaded.well_formed (sym able ∙ c.if-has_step.false) (pass_friendly c.args.game.now.set p c.friendly_move.result next c.if-friendly_move.true), refl)

pub returns-else-friendly_move-clause-answer : goal.returns-else-friendly_move-clause-answer
unfolding answer_of side_of run other
returns-else-friendly_move-clause-answer c = λ threads p play.
    let able = c.has_step.ensures c.args.game.now.program.code (end_of p []) play.standing.holds in
    let next = (c.friendly_move.ensures.wins threads p [] (play_pass c.args.game.now.program.code c.args.game.now.program.lengths c.args.game.now.tails c.args.game.now.masks threads c.args.game.now.set c.args.game.now.shape hostile c.args.m c.args.table.now 49 p [] play c.has_step.result able (ap not c.if-has_step.false))).0 in
    (hostile_can none, pass_won c.args.game.now.set p play.standing.loaded.well_formed (sym able ∙ c.if-has_step.false) (pass_hostile c.args.game.now.set p c.friendly_move.result next c.if-friendly_move.false), refl)

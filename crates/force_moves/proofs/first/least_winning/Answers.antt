use Rattle.std.proofs.Common.{rules, ℕ, arith, ◌≡◌, refl, sym, ap, subst, ◌∙◌, not, false, [], ◌∷◌, length}
use Rattle.spec_schedules.specs.System.{run}
use Rattle.spec_sc.specs.Graph.{end_of}
use Rattle.machine.proofs.HeldAsking.{one_more}
use Rattle.spec_force.specs.Game.{hostile, other}
use Rattle.force_moves.specs.Standing.{side_of, Known, keeps_first}
use Rattle.force_moves.proofs.Steps.{standing_ready, standing_step}
use Rattle.force_moves.proofs.Moves.{step_skipped, step_enabled, step_won, step_lost}
use Rattle.force_moves.proofs.Turns.{play_step}
use Rattle.force_moves.proofs.first.least_winning.Goals.{else-may_step, then-may_step+else-not-friendly_move}
use Rattle.force_moves.proofs.first.least_winning.Goals as goal

pub loop-t-init : goal.loop-t-init
loop-t-init c =
    (search rules, refl, λ threads p play. (λ u b. absurd (omega arith), play.known))

pub step-requires : goal.step-requires
unfolding side_of
step-requires c =
    let e = c.requires.0 in
    standing_ready c.args.game.now.program.code c.args.game.now.program.lengths c.args.game.now.tails e.0 c.args.m e.1 [] e.2 c.loop-t.t
    (step_enabled c.args.game.now.set 49 hostile e.1 [] c.loop-t.t c.may_step.result (c.may_step.ensures.mine c.args.game.now.program.code (end_of e.1 []) e.2.holds) c.if-may_step.true)

pub friendly_move-requires : goal.friendly_move-requires
unfolding side_of
friendly_move-requires c =
    let e = c.requires.0 in
    let ok = step_enabled c.args.game.now.set 49 hostile e.1 [] c.loop-t.t c.may_step.result (c.may_step.ensures.mine c.args.game.now.program.code (end_of e.1 []) e.2.holds) c.if-may_step.true in
    ((e.0, e.1, c.loop-t.t ∷ [], standing_step c.args.game.now.program.code c.args.game.now.program.lengths c.args.game.now.tails e.0 c.args.m e.1 [] e.2 c.loop-t.t ok c.step.result c.step.ensures c.step.result.machine refl), c.requires.1)

pub returns-then-not-friendly_move : goal.returns-then-not-friendly_move
unfolding side_of other run
returns-then-not-friendly_move c = record {
  within = omega (arith, c.loop-t-test.true);
  words = c.friendly_move.ensures.words ∙ c.loop-t.invariant.1;
  first = λ threads p play.
      let so = c.loop-t.invariant.2 threads p play in
      let mine = c.may_step.ensures.mine c.args.game.now.program.code (end_of p []) play.standing.holds in
      let next = c.friendly_move.ensures.wins threads p (c.loop-t.t ∷ [])
      (play_step c.args.game.now.program.code c.args.game.now.program.lengths c.args.game.now.tails c.args.game.now.masks threads c.args.game.now.set c.args.game.now.shape hostile c.args.m c.args.table.now 49 p [] play c.loop-t.t c.may_step.result mine c.if-may_step.true c.step.result c.step.ensures c.step.result.machine refl c.loop-t.table so.1) in (
        (omega (arith, c.loop-t-test.true), step_won c.args.game.now.set 49 hostile p [] c.loop-t.t c.may_step.result mine c.if-may_step.true c.friendly_move.result next.0 (ap not c.if-not-friendly_move.true), so.0),
        next.1,
      );
}

pub loop-t-preserved : goal.loop-t-preserved
unfolding side_of other run
loop-t-preserved c =
    elim c.if-may_step.branch [
      | then-may_step+else-not-friendly_move w ↦ (
        search rules,
        ap length w.table-is ∙ w.friendly_move.ensures.words ∙ c.loop-t.invariant.1,
        λ threads p play.
            let so = c.loop-t.invariant.2 threads p play in
            let mine = c.may_step.ensures.mine c.args.game.now.program.code (end_of p []) play.standing.holds in
            let next = w.friendly_move.ensures.wins threads p (c.loop-t.t ∷ [])
            (play_step c.args.game.now.program.code c.args.game.now.program.lengths c.args.game.now.tails c.args.game.now.masks threads c.args.game.now.set c.args.game.now.shape hostile c.args.m c.args.table.now 49 p [] play c.loop-t.t c.may_step.result mine w.if-may_step.true w.step.result w.step.ensures w.step.result.machine refl c.loop-t.table so.1) in (
              one_more (λ (u : ℕ). keeps_first c.args.game.now.set p u ≡ false) c.loop-t.t so.0 (step_lost c.args.game.now.set 49 hostile p [] c.loop-t.t c.may_step.result mine w.if-may_step.true w.friendly_move.result next.0 (ap not w.if-not-friendly_move.false)),
              subst (Known c.args.game.now.set p c.args.game.now.shape) (sym w.table-is) next.1,
            ),
      )
      | else-may_step w ↦ (
        search rules,
        ap length w.table-is ∙ c.loop-t.invariant.1,
        λ threads p play.
            let so = c.loop-t.invariant.2 threads p play in (
              one_more (λ (u : ℕ). keeps_first c.args.game.now.set p u ≡ false) c.loop-t.t so.0
                  (step_skipped c.args.game.now.set 49 hostile p [] c.loop-t.t c.may_step.result (c.may_step.ensures.mine c.args.game.now.program.code (end_of p []) play.standing.holds) w.if-may_step.false),
              subst (Known c.args.game.now.set p c.args.game.now.shape) (sym w.table-is) so.1,
            ),
      )
    ]

pub returns : goal.returns
returns c = record {
  within = tt;
  words = c.loop-t.invariant.1;
  first = λ threads p play.
      let so = c.loop-t.invariant.2 threads p play in
      (λ u b. so.0 u (omega (arith, b, c.loop-t-test.false)), so.1);
}

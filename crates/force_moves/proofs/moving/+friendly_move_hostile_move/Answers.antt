use Rattle.std.proofs.Common.{rules, arith, refl, ap, ◌∙◌, not, true, false, [], ◌∷◌, ◌++◌, length}
use Rattle.spec_sc.specs.Graph.{end_of}
use Rattle.spec_force.specs.Game.{hostile, friendly, other, same}
use Rattle.theory_game.specs.Winners.{number_of}
use Rattle.force_moves.specs.Standing.{side_of}
use Rattle.force_moves.proofs.Steps.{standing_ready, standing_step}
use Rattle.force_moves.proofs.Moves.{move_failed, move_spent, move_silent, move_passes, move_lost, move_won, step_skipped, step_enabled, step_won, step_lost}
use Rattle.force_moves.proofs.Turns.{standing_short, turn_lost, play_pass, play_step, play_found, play_kept}
use Rattle.force_moves.proofs.moving.+friendly_move_hostile_move.Goals.{friendly_move-then-left-eq0-via-then-left-eq0, friendly_move-then-left-eq0-via-else-left-eq0+then-is_silent, friendly_move-else-may_step, friendly_move-then-may_step+else-not-hostile_move}
use Rattle.force_moves.proofs.moving.+friendly_move_hostile_move.Goals.{hostile_move-then-left-eq0-via-then-left-eq0, hostile_move-then-left-eq0-via-else-left-eq0+then-is_silent, hostile_move-else-may_step, hostile_move-then-may_step+else-not-friendly_move}
use Rattle.force_moves.proofs.moving.+friendly_move_hostile_move.Goals as goal

pub friendly_move-returns-then-fails-clause-wins : goal.friendly_move-returns-then-fails-clause-wins
unfolding side_of other same number_of
friendly_move-returns-then-fails-clause-wins t c =
    let x = c.args in
    λ threads p v play. (move_failed x.game.now.program.code x.game.now.program.lengths x.game.now.tails threads x.m p v play.standing x.game.now.set x.left friendly c.fails.result c.fails.ensures c.if-fails.true, play.known)

pub friendly_move-returns-then-left-eq0-clause-wins : goal.friendly_move-returns-then-left-eq0-clause-wins
unfolding side_of other same number_of
friendly_move-returns-then-left-eq0-clause-wins t c =
    let x = c.args in
    λ threads p v play.
    let spent = move_spent x.game.now.program.code x.game.now.program.lengths x.game.now.tails threads x.m p v play.standing x.game.now.set x.left friendly c.fails.result c.fails.ensures c.if-fails.false in
    let silent = move_silent x.game.now.program.code x.game.now.program.lengths x.game.now.tails threads x.m p v play.standing x.game.now.set x.left friendly c.fails.result c.fails.ensures c.if-fails.false in
    (elim c.then-left-eq0.branch [ friendly_move-then-left-eq0-via-then-left-eq0 w ↦ spent w.if-left-eq0.true | friendly_move-then-left-eq0-via-else-left-eq0+then-is_silent w ↦ silent (w.is_silent.ensures w.if-is_silent.true) ], play.known)

pub friendly_move-returns-then-not-has_step-clause-wins : goal.friendly_move-returns-then-not-has_step-clause-wins
unfolding side_of other same number_of
friendly_move-returns-then-not-has_step-clause-wins t c =
    let x = c.args in
    let told = c.hostile_move.ensures.wins in
    λ threads p v play.
    let able = c.has_step.ensures x.game.now.program.code (end_of p v) play.standing.holds in
    let none = ap not c.if-not-has_step.true in
    let next = told threads p v (play_pass x.game.now.program.code x.game.now.program.lengths x.game.now.tails x.game.now.masks threads x.game.now.set x.game.now.shape friendly x.m x.table.now x.left p v play c.has_step.result able none) in
    (move_passes x.game.now.program.code x.game.now.program.lengths x.game.now.tails threads x.m p v play.standing x.game.now.set x.left friendly c.if-left-eq0.false c.has_step.result able none c.hostile_move.result next.0, next.1)

pub friendly_move-seen_key-words-requires : goal.friendly_move-seen_key-words-requires
unfolding side_of other same number_of
friendly_move-seen_key-words-requires t c =
    let x = c.args in
    let e = c.requires.0 in
    (omega arith, standing_short x.game.now.program.code x.game.now.program.lengths x.game.now.tails e.0 x.m e.1 e.2 e.3)

pub friendly_move-returns-in-Some-clause-wins : goal.friendly_move-returns-in-Some-clause-wins
unfolding side_of other same number_of
friendly_move-returns-in-Some-clause-wins t c =
    let x = c.args in
    λ threads p v play.
    let known = c.in-Some.ensures in
    let able = c.has_step.ensures x.game.now.program.code (end_of p v) play.standing.holds in
    (known.2 ∙ play_found x.game.now.program.code x.game.now.program.lengths x.game.now.tails x.game.now.masks threads x.game.now.set x.game.now.shape friendly x.m x.table.now x.left p v play 0 refl c.seen_key-words.result c.requires.1 c.seen_key-words.ensures c.fails.result c.fails.ensures c.if-fails.false c.has_step.result able (ap not c.if-not-has_step.false) known.0 known.1, play.known)

pub friendly_move-step-requires : goal.friendly_move-step-requires
unfolding side_of other same number_of
friendly_move-step-requires t c =
    let x = c.args in
    let e = c.requires.0 in
    standing_ready x.game.now.program.code x.game.now.program.lengths x.game.now.tails e.0 x.m e.1 e.2 e.3 c.loop-t.t
    (step_enabled x.game.now.set x.left (friendly) e.1 e.2 c.loop-t.t c.may_step.result (c.may_step.ensures.mine x.game.now.program.code (end_of e.1 e.2) e.3.holds) c.if-may_step.true)

pub friendly_move-hostile_move-requires-then-may_step : goal.friendly_move-hostile_move-requires-then-may_step
unfolding side_of other same number_of
friendly_move-hostile_move-requires-then-may_step t c =
    let x = c.args in
    let e = c.requires.0 in
    let ok = step_enabled x.game.now.set x.left (friendly) e.1 e.2 c.loop-t.t c.may_step.result (c.may_step.ensures.mine x.game.now.program.code (end_of e.1 e.2) e.3.holds) c.if-may_step.true in (
      omega (arith, c.decreases, c.if-left-eq0.false),
      ((e.0, e.1, e.2 ++ (c.loop-t.t ∷ []), standing_step x.game.now.program.code x.game.now.program.lengths x.game.now.tails e.0 x.m e.1 e.2 e.3 c.loop-t.t ok c.step.result c.step.ensures c.step.result.machine refl), c.requires.1),
    )

pub friendly_move-returns-then-not-hostile_move-clause-wins : goal.friendly_move-returns-then-not-hostile_move-clause-wins
unfolding side_of other same number_of
friendly_move-returns-then-not-hostile_move-clause-wins t c =
    let x = c.args in
    let told = c.hostile_move-then-may_step.ensures.wins in
    λ threads p v play.
    let so = c.loop-t.invariant.2 threads p v play in
    let able = c.has_step.ensures x.game.now.program.code (end_of p v) play.standing.holds in
    let some = ap not c.if-not-has_step.false in
    let mine = c.may_step.ensures.mine x.game.now.program.code (end_of p v) play.standing.holds in
    let next = told threads p (v ++ (c.loop-t.t ∷ [])) (play_step x.game.now.program.code x.game.now.program.lengths x.game.now.tails x.game.now.masks threads x.game.now.set x.game.now.shape friendly x.m x.table.now x.left p v play c.loop-t.t c.may_step.result mine c.if-may_step.true c.step.result c.step.ensures c.step.result.machine refl c.loop-t.table so.1) in
    let won = move_won x.game.now.program.code x.game.now.program.lengths x.game.now.tails threads x.m p v play.standing x.game.now.set x.left friendly c.if-left-eq0.false c.has_step.result able some c.loop-t.t (step_won x.game.now.set x.left friendly p v c.loop-t.t c.may_step.result mine c.if-may_step.true c.hostile_move-then-may_step.result next.0 (ap not c.if-not-hostile_move.true)) in
    (won, play_kept x.game.now.program.code x.game.now.program.lengths x.game.now.tails x.game.now.masks threads x.game.now.set x.game.now.shape friendly x.m x.table.now x.left p v play 0 refl c.seen_key-words.result c.requires.1 c.seen_key-words.ensures c.fails.result c.fails.ensures c.if-fails.false c.has_step.result able some true won _ _ next.1 c.keep_flag.ensures.honest)

pub friendly_move-loop-t-preserved : goal.friendly_move-loop-t-preserved
unfolding side_of other same number_of
friendly_move-loop-t-preserved t c =
    let x = c.args in
    elim c.if-may_step.branch [
      | friendly_move-then-may_step+else-not-hostile_move w ↦ (
        search rules,
        ap length w.table-is ∙ w.hostile_move-then-may_step.ensures.words ∙ c.loop-t.invariant.1,
        turn_lost x.game.now.program.code x.game.now.program.lengths x.game.now.tails x.game.now.masks x.game.now.set x.game.now.shape friendly x.m x.table.now x.left c.loop-t.table _ c.if-may_step.table c.loop-t.t c.loop-t.invariant.2 w.table-is (λ threads p v play so.
            let told = w.hostile_move-then-may_step.ensures.wins in
            let mine = c.may_step.ensures.mine x.game.now.program.code (end_of p v) play.standing.holds in
            let next = told threads p (v ++ (c.loop-t.t ∷ [])) (play_step x.game.now.program.code x.game.now.program.lengths x.game.now.tails x.game.now.masks threads x.game.now.set x.game.now.shape friendly x.m x.table.now x.left p v play c.loop-t.t c.may_step.result mine w.if-may_step.true w.step.result w.step.ensures w.step.result.machine refl c.loop-t.table so) in
            (step_lost x.game.now.set x.left friendly p v c.loop-t.t c.may_step.result mine w.if-may_step.true w.hostile_move-then-may_step.result next.0 (ap not w.if-not-hostile_move.false), next.1)),
      )
      | friendly_move-else-may_step w ↦ (
        search rules,
        ap length w.table-is ∙ c.loop-t.invariant.1,
        turn_lost x.game.now.program.code x.game.now.program.lengths x.game.now.tails x.game.now.masks x.game.now.set x.game.now.shape friendly x.m x.table.now x.left c.loop-t.table _ c.if-may_step.table c.loop-t.t c.loop-t.invariant.2 w.table-is (λ threads p v play so.
            (step_skipped x.game.now.set x.left friendly p v c.loop-t.t c.may_step.result (c.may_step.ensures.mine x.game.now.program.code (end_of p v) play.standing.holds) w.if-may_step.false, so)),
      )
    ]

pub friendly_move-returns-clause-wins : goal.friendly_move-returns-clause-wins
unfolding side_of other same number_of
friendly_move-returns-clause-wins t c =
    let x = c.args in
    λ threads p v play.
    let so = c.loop-t.invariant.2 threads p v play in
    let able = c.has_step.ensures x.game.now.program.code (end_of p v) play.standing.holds in
    let some = ap not c.if-not-has_step.false in
    let lost = move_lost x.game.now.program.code x.game.now.program.lengths x.game.now.tails threads x.m p v play.standing x.game.now.set x.left friendly c.if-left-eq0.false c.has_step.result able some refl (λ u b. so.0 u (omega (arith, b, c.loop-t-test.false))) in
    (lost, play_kept x.game.now.program.code x.game.now.program.lengths x.game.now.tails x.game.now.masks threads x.game.now.set x.game.now.shape friendly x.m x.table.now x.left p v play 0 refl c.seen_key-words.result c.requires.1 c.seen_key-words.ensures c.fails.result c.fails.ensures c.if-fails.false c.has_step.result able some false lost _ _ so.1 c.keep_flag-2.ensures.honest)

pub hostile_move-returns-then-fails-clause-wins : goal.hostile_move-returns-then-fails-clause-wins
unfolding side_of other same number_of
hostile_move-returns-then-fails-clause-wins t c =
    let x = c.args in
    λ threads p v play. (move_failed x.game.now.program.code x.game.now.program.lengths x.game.now.tails threads x.m p v play.standing x.game.now.set x.left hostile c.fails.result c.fails.ensures c.if-fails.true, play.known)

pub hostile_move-returns-then-left-eq0-clause-wins : goal.hostile_move-returns-then-left-eq0-clause-wins
unfolding side_of other same number_of
hostile_move-returns-then-left-eq0-clause-wins t c =
    let x = c.args in
    λ threads p v play.
    let spent = move_spent x.game.now.program.code x.game.now.program.lengths x.game.now.tails threads x.m p v play.standing x.game.now.set x.left hostile c.fails.result c.fails.ensures c.if-fails.false in
    let silent = move_silent x.game.now.program.code x.game.now.program.lengths x.game.now.tails threads x.m p v play.standing x.game.now.set x.left hostile c.fails.result c.fails.ensures c.if-fails.false in
    (elim c.then-left-eq0.branch [ hostile_move-then-left-eq0-via-then-left-eq0 w ↦ spent w.if-left-eq0.true | hostile_move-then-left-eq0-via-else-left-eq0+then-is_silent w ↦ silent (w.is_silent.ensures w.if-is_silent.true) ], play.known)

pub hostile_move-returns-then-not-has_step-clause-wins : goal.hostile_move-returns-then-not-has_step-clause-wins
unfolding side_of other same number_of
hostile_move-returns-then-not-has_step-clause-wins t c =
    let x = c.args in
    let told = c.friendly_move.ensures.wins in
    λ threads p v play.
    let able = c.has_step.ensures x.game.now.program.code (end_of p v) play.standing.holds in
    let none = ap not c.if-not-has_step.true in
    let next = told threads p v (play_pass x.game.now.program.code x.game.now.program.lengths x.game.now.tails x.game.now.masks threads x.game.now.set x.game.now.shape hostile x.m x.table.now x.left p v play c.has_step.result able none) in
    (move_passes x.game.now.program.code x.game.now.program.lengths x.game.now.tails threads x.m p v play.standing x.game.now.set x.left hostile c.if-left-eq0.false c.has_step.result able none c.friendly_move.result next.0, next.1)

pub hostile_move-seen_key-words-requires : goal.hostile_move-seen_key-words-requires
unfolding side_of other same number_of
hostile_move-seen_key-words-requires t c =
    let x = c.args in
    let e = c.requires.0 in
    (omega arith, standing_short x.game.now.program.code x.game.now.program.lengths x.game.now.tails e.0 x.m e.1 e.2 e.3)

pub hostile_move-returns-in-Some-clause-wins : goal.hostile_move-returns-in-Some-clause-wins
unfolding side_of other same number_of
hostile_move-returns-in-Some-clause-wins t c =
    let x = c.args in
    λ threads p v play.
    let known = c.in-Some.ensures in
    let able = c.has_step.ensures x.game.now.program.code (end_of p v) play.standing.holds in
    (known.2 ∙ play_found x.game.now.program.code x.game.now.program.lengths x.game.now.tails x.game.now.masks threads x.game.now.set x.game.now.shape hostile x.m x.table.now x.left p v play 1 refl c.seen_key-words.result c.requires.1 c.seen_key-words.ensures c.fails.result c.fails.ensures c.if-fails.false c.has_step.result able (ap not c.if-not-has_step.false) known.0 known.1, play.known)

pub hostile_move-step-requires : goal.hostile_move-step-requires
unfolding side_of other same number_of
hostile_move-step-requires t c =
    let x = c.args in
    let e = c.requires.0 in
    standing_ready x.game.now.program.code x.game.now.program.lengths x.game.now.tails e.0 x.m e.1 e.2 e.3 c.loop-t.t
    (step_enabled x.game.now.set x.left (hostile) e.1 e.2 c.loop-t.t c.may_step.result (c.may_step.ensures.mine x.game.now.program.code (end_of e.1 e.2) e.3.holds) c.if-may_step.true)

pub hostile_move-friendly_move-requires-then-may_step : goal.hostile_move-friendly_move-requires-then-may_step
unfolding side_of other same number_of
hostile_move-friendly_move-requires-then-may_step t c =
    let x = c.args in
    let e = c.requires.0 in
    let ok = step_enabled x.game.now.set x.left (hostile) e.1 e.2 c.loop-t.t c.may_step.result (c.may_step.ensures.mine x.game.now.program.code (end_of e.1 e.2) e.3.holds) c.if-may_step.true in (
      omega (arith, c.decreases, c.if-left-eq0.false),
      ((e.0, e.1, e.2 ++ (c.loop-t.t ∷ []), standing_step x.game.now.program.code x.game.now.program.lengths x.game.now.tails e.0 x.m e.1 e.2 e.3 c.loop-t.t ok c.step.result c.step.ensures c.step.result.machine refl), c.requires.1),
    )

pub hostile_move-returns-then-not-friendly_move-clause-wins : goal.hostile_move-returns-then-not-friendly_move-clause-wins
unfolding side_of other same number_of
hostile_move-returns-then-not-friendly_move-clause-wins t c =
    let x = c.args in
    let told = c.friendly_move-then-may_step.ensures.wins in
    λ threads p v play.
    let so = c.loop-t.invariant.2 threads p v play in
    let able = c.has_step.ensures x.game.now.program.code (end_of p v) play.standing.holds in
    let some = ap not c.if-not-has_step.false in
    let mine = c.may_step.ensures.mine x.game.now.program.code (end_of p v) play.standing.holds in
    let next = told threads p (v ++ (c.loop-t.t ∷ [])) (play_step x.game.now.program.code x.game.now.program.lengths x.game.now.tails x.game.now.masks threads x.game.now.set x.game.now.shape hostile x.m x.table.now x.left p v play c.loop-t.t c.may_step.result mine c.if-may_step.true c.step.result c.step.ensures c.step.result.machine refl c.loop-t.table so.1) in
    let won = move_won x.game.now.program.code x.game.now.program.lengths x.game.now.tails threads x.m p v play.standing x.game.now.set x.left hostile c.if-left-eq0.false c.has_step.result able some c.loop-t.t (step_won x.game.now.set x.left hostile p v c.loop-t.t c.may_step.result mine c.if-may_step.true c.friendly_move-then-may_step.result next.0 (ap not c.if-not-friendly_move.true)) in
    (won, play_kept x.game.now.program.code x.game.now.program.lengths x.game.now.tails x.game.now.masks threads x.game.now.set x.game.now.shape hostile x.m x.table.now x.left p v play 1 refl c.seen_key-words.result c.requires.1 c.seen_key-words.ensures c.fails.result c.fails.ensures c.if-fails.false c.has_step.result able some true won _ _ next.1 c.keep_flag.ensures.honest)

pub hostile_move-loop-t-preserved : goal.hostile_move-loop-t-preserved
unfolding side_of other same number_of
hostile_move-loop-t-preserved t c =
    let x = c.args in
    elim c.if-may_step.branch [
      | hostile_move-then-may_step+else-not-friendly_move w ↦ (
        search rules,
        ap length w.table-is ∙ w.friendly_move-then-may_step.ensures.words ∙ c.loop-t.invariant.1,
        turn_lost x.game.now.program.code x.game.now.program.lengths x.game.now.tails x.game.now.masks x.game.now.set x.game.now.shape hostile x.m x.table.now x.left c.loop-t.table _ c.if-may_step.table c.loop-t.t c.loop-t.invariant.2 w.table-is (λ threads p v play so.
            let told = w.friendly_move-then-may_step.ensures.wins in
            let mine = c.may_step.ensures.mine x.game.now.program.code (end_of p v) play.standing.holds in
            let next = told threads p (v ++ (c.loop-t.t ∷ [])) (play_step x.game.now.program.code x.game.now.program.lengths x.game.now.tails x.game.now.masks threads x.game.now.set x.game.now.shape hostile x.m x.table.now x.left p v play c.loop-t.t c.may_step.result mine w.if-may_step.true w.step.result w.step.ensures w.step.result.machine refl c.loop-t.table so) in
            (step_lost x.game.now.set x.left hostile p v c.loop-t.t c.may_step.result mine w.if-may_step.true w.friendly_move-then-may_step.result next.0 (ap not w.if-not-friendly_move.false), next.1)),
      )
      | hostile_move-else-may_step w ↦ (
        search rules,
        ap length w.table-is ∙ c.loop-t.invariant.1,
        turn_lost x.game.now.program.code x.game.now.program.lengths x.game.now.tails x.game.now.masks x.game.now.set x.game.now.shape hostile x.m x.table.now x.left c.loop-t.table _ c.if-may_step.table c.loop-t.t c.loop-t.invariant.2 w.table-is (λ threads p v play so.
            (step_skipped x.game.now.set x.left hostile p v c.loop-t.t c.may_step.result (c.may_step.ensures.mine x.game.now.program.code (end_of p v) play.standing.holds) w.if-may_step.false, so)),
      )
    ]

pub hostile_move-returns-clause-wins : goal.hostile_move-returns-clause-wins
unfolding side_of other same number_of
hostile_move-returns-clause-wins t c =
    let x = c.args in
    λ threads p v play.
    let so = c.loop-t.invariant.2 threads p v play in
    let able = c.has_step.ensures x.game.now.program.code (end_of p v) play.standing.holds in
    let some = ap not c.if-not-has_step.false in
    let lost = move_lost x.game.now.program.code x.game.now.program.lengths x.game.now.tails threads x.m p v play.standing x.game.now.set x.left hostile c.if-left-eq0.false c.has_step.result able some refl (λ u b. so.0 u (omega (arith, b, c.loop-t-test.false))) in
    (lost, play_kept x.game.now.program.code x.game.now.program.lengths x.game.now.tails x.game.now.masks threads x.game.now.set x.game.now.shape hostile x.m x.table.now x.left p v play 1 refl c.seen_key-words.result c.requires.1 c.seen_key-words.ensures c.fails.result c.fails.ensures c.if-fails.false c.has_step.result able some false lost _ _ so.1 c.keep_flag-2.ensures.honest)

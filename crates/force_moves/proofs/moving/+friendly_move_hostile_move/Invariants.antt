-- `hostile_move` and `friendly_move` call each other; the falling number is the steps and passes that remain. The loops' invariant: none of
-- the side's steps with a thread before t wins, and the table says nothing false.
use Rattle.std.proofs.Common.{◌≤◌, ◌≡◌, length}
use Rattle.spec_force.specs.Game.{hostile, friendly}
use Rattle.force_moves.proofs.Turns.{Tried}
use Rattle.force_moves.proofs.moving.+friendly_move_hostile_move.Given as goal

abbrev pub decreases-friendly_move : goal.decreases-friendly_move
decreases-friendly_move l = l.left

abbrev pub decreases-hostile_move : goal.decreases-hostile_move
decreases-hostile_move l = l.left

abbrev pub invariant-friendly_move-loop-t : goal.invariant-friendly_move-loop-t
invariant-friendly_move-loop-t l =
    (l.t ≤ 6) × (length l.table ≡ length l.initial.table) × Tried l.game.program.code l.game.program.lengths l.game.tails l.game.masks l.game.set l.game.shape friendly l.m l.initial.table l.left l.table l.t

abbrev pub invariant-hostile_move-loop-t : goal.invariant-hostile_move-loop-t
invariant-hostile_move-loop-t l =
    (l.t ≤ 6) × (length l.table ≡ length l.initial.table) × Tried l.game.program.code l.game.program.lengths l.game.tails l.game.masks l.game.set l.game.shape hostile l.m l.initial.table l.left l.table l.t

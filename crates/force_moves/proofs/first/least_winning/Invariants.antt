-- `least_winning` tries one thread after the other. The invariant: no step with a thread before t wins, and the table says nothing false.
use Rattle.std.proofs.Common.{ℕ, ◌<◌, ◌≤◌, ◌≡◌, false, [], length}
use Rattle.spec_file.specs.Program.{Program}
use Rattle.spec_force.specs.Game.{hostile}
use Rattle.force_moves.specs.Standing.{Known, Playing, keeps_first}
use Rattle.force_moves.proofs.first.least_winning.Given as goal

abbrev pub invariant-loop-t : goal.invariant-loop-t
invariant-loop-t l =
    (l.t ≤ 6) × (length l.table ≡ length l.initial.table)
    × ((threads : ℕ) (p : Program) → Playing l.game.program.code l.game.program.lengths l.game.tails l.game.masks threads l.game.set l.game.shape hostile l.m l.initial.table 49 p [] → ((u : ℕ) → u < l.t → keeps_first l.game.set p u ≡ false) × Known l.game.set p l.game.shape l.table)

-- `is_own` asks the set, and the side.
use Rattle.std.proofs.Common.{ap₂, ◌∙◌}
use mathlib.Core.Bool.{beq}
use Rattle.force_moves.proofs.Flags.{own_by}
use Rattle.force_moves.proofs.sides.is_own.Goals as goal

pub returns : goal.returns
returns c = ap₂ beq c.is_in.ensures c.eq.ensures ∙ own_by c.args.side c.args.set c.args.t
